-- What the publisher knows after a publication.
use Rattle.std.proofs.Common.{◌≡◌, ℕ, ◌+◌, ◌-◌, ◌^◌, ◌<◌, zero, suc, List, [], ◌∷◌, ◌++◌, length, take, fold, slice_get, Some, refl, sym}
use Rattle.std.proofs.Common.{ap, ◌∙◌, subst, arith, length-append, Result, Ok, Err}
use Rattle.std.specs.Prelude.{MatchResult, IfOk}
use Rattle.std.proofs.lemmas.List.Sums.{fold-append}
use Rattle.std.proofs.Math.Seq.{take-append_seam}
use Rattle.std.specs.Arc.{arc_value}
use Rattle.plan_check.specs.Verified.{Verified}
use Rattle.live_plan.specs.declared.known.Known.{Known}
use Rattle.live_plan.specs.declared.published.Shown.{Shown}
use Rattle.live_plan.specs.declared.published.Published.{Published}
use Rattle.live_plan.specs.Plans.{HasPlan, HaveNodes, nodes_of}
use Rattle.live_plan.specs.Published.{newcomer, seen_of, begun, advanced}
use Rattle.live_plan.specs.Seats.{IsTelling}
use Rattle.live_plan.proofs.Passed.{has_within, has_more, has_taken, have_one, take_length}

abbrev pub shown_next : Shown → Published → Shown
shown_next s op = arc_value op.shown

-- only the last operation counts
pub last_shown : (x s : Shown) (all ops : List Published) (op : Published) → x ≡ fold shown_next s all → all ≡ ops ++ op ∷ []
    → x ≡ arc_value op.shown
last_shown x s all ops op is pending = is ∙ (ap (fold shown_next s) pending ∙ fold-append shown_next s ops (op ∷ []))

pub both_match : {A E X : Type 0} (r : Result A E) (P P' : A → Type 0) (Q Q' : E → Type 0) → MatchResult r P Q → MatchResult r P' Q'
    → ((x : A) → P x → P' x → X) → ((e : E) → Q e → Q' e → X) → X
both_match (Ok x) P P' Q Q' p p' f g = f x p p'
both_match (Err e) P P' Q Q' q q' f g = g e q q'

pub both_ok : {A E : Type 0} {X : A → Type 0} (r : Result A E) (P P' : A → Type 0) (Q Q' : E → Type 0) → MatchResult r P Q
    → MatchResult r P' Q' → ((x : A) → P x → P' x → X x) → IfOk r X
both_ok (Ok x) P P' Q Q' p p' f = f x p p'
both_ok (Err e) P P' Q Q' q q' f = tt

append_alike : (nodes : ℕ) (xs ys : List Verified) → HaveNodes nodes xs → HaveNodes nodes ys → HaveNodes nodes (xs ++ ys)
append_alike nodes [] ys all more i plan at = more i plan at
append_alike nodes (x ∷ xs) ys all more zero plan at = all zero plan at
append_alike nodes (x ∷ xs) ys all more (suc i) plan at = append_alike nodes xs ys (λ j p e. all (suc j) p e) more i plan at

take_alike : (nodes n : ℕ) (xs : List Verified) → HaveNodes nodes xs → HaveNodes nodes (take n xs)
take_alike nodes zero xs all i plan at = absurd cc
take_alike nodes (suc n) [] all i plan at = absurd cc
take_alike nodes (suc n) (x ∷ xs) all zero plan at = all zero plan at
take_alike nodes (suc n) (x ∷ xs) all (suc i) plan at = take_alike nodes n xs (λ j p e. all (suc j) p e) i plan at

take_next : (xs : List Verified) (n : ℕ) (x : Verified) → slice_get xs n ≡ Some x → take (suc n) xs ≡ take n xs ++ x ∷ []
take_next [] n x at = absurd cc
take_next (y ∷ ys) zero x at = let same : y ≡ x = cc at in ap (λ z. z ∷ []) same
take_next (y ∷ ys) (suc n) x at = ap (λ zs. y ∷ zs) (take_next ys n x at)

module _ (nodes : ℕ) (s : Shown) (v : Known) (y : Shown) (t : IsTelling nodes s v) where
  -- the number of published plans
  pub seen_length : length (seen_of v) ≡ s.number
  seen_length = let within = has_within v.plans s.number (arc_value s.plan) t.plan_is in let e =
      t.number_is in sym (take_length v.plans v.number (omega arith)) ∙ e

  here_seen : HasPlan (seen_of v) s.number (arc_value s.plan)
  here_seen = subst (λ n. HasPlan (take n v.plans) s.number (arc_value s.plan)) (sym t.number_is)
      (has_taken v.plans s.number (arc_value s.plan) t.plan_is)

  pub last_seen : HasPlan (seen_of v) (length (seen_of v)) (arc_value s.plan)
  last_seen = subst (λ n. HasPlan (seen_of v) n (arc_value s.plan)) (sym seen_length) here_seen

  module _ (same : y.number ≡ s.number) (plan : arc_value y.plan ≡ arc_value s.plan) where
    pub begun_here : HasPlan (seen_of v ++ y.coming.value) y.number (arc_value y.plan)
    begun_here =
        let more = has_more (seen_of v) (seen_of v ++ y.coming.value) s.number (arc_value s.plan) (y.coming.value, refl) here_seen in
        rw same (rw plan more)

    pub begun_telling : HaveNodes nodes y.coming.value → length (seen_of v) + length y.coming.value < 2 ^ 32 → IsTelling nodes y (begun v y)
    begun_telling all room = record {
      batch_is = refl;
      number_is = refl;
      plan_is = begun_here;
      alike = append_alike nodes (seen_of v) y.coming.value (take_alike nodes v.number v.plans t.alike) all;
      bounded = let e = length-append (seen_of v) y.coming.value in omega arith;
    }

    pub seen_begun : seen_of (begun v y) ≡ seen_of v
    seen_begun =
        let n : y.number ≡ length (seen_of v) = same ∙ sym seen_length in
        ap (λ k. take k (seen_of v ++ y.coming.value)) n ∙ take-append_seam (seen_of v) y.coming.value

  module _ (batch : s.batch ≡ y.batch) (next : y.number ≡ s.number + 1) (here : HasPlan v.plans y.number (arc_value y.plan)) where
    pub next_telling : IsTelling nodes y (advanced v y)
    next_telling = record {
      batch_is = t.batch_is ∙ batch;
      number_is = refl;
      plan_is = here;
      alike = t.alike;
      bounded = t.bounded;
    }

    pub seen_next : seen_of (advanced v y) ≡ seen_of v ++ arc_value y.plan ∷ []
    seen_next =
        let e = t.number_is in
        let n : y.number ≡ suc v.number = omega arith in
        let before : y.number - 1 ≡ v.number = omega arith in
        ap (λ k. take k v.plans) n ∙ take_next v.plans v.number (arc_value y.plan)
        (subst (λ k. slice_get v.plans k ≡ Some (arc_value y.plan)) before here.1)

-- the list of only the first plan
pub first_here : (y : Shown) (first : Verified) → y.number ≡ 1 → y.coming.value ≡ first ∷ [] → arc_value y.plan ≡ first
    → HasPlan (seen_of newcomer ++ y.coming.value) y.number (arc_value y.plan)
first_here y first number coming plan = rw number (rw coming (rw plan (omega arith, refl)))

pub first_telling : (nodes : ℕ) (y : Shown) (first : Verified) → y.number ≡ 1 → y.coming.value ≡ first ∷ [] → arc_value y.plan ≡ first
    → nodes_of first ≡ nodes → IsTelling nodes y (begun newcomer y)
first_telling nodes y first number coming plan same = record {
  batch_is = refl;
  number_is = refl;
  plan_is = first_here y first number coming plan;
  alike = subst (HaveNodes nodes) (sym coming) (have_one nodes first same);
  bounded = let e = ap length coming in omega (arith, e);
}

-- what follows from an answer that is Ok
pub ok_match : {A E : Type 0} (r : Result A E) (P : A → Type 0) (Q : E → Type 0) (x : A) → r ≡ Ok x → MatchResult r P Q → P x
ok_match r P Q x is h = subst (λ o. MatchResult o P Q) is h
