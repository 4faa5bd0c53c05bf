-- the ranks of the starts, and the titles that a cover has
use Rattle.std.specs.Prelude.{ℕ, ◌≡◌, ◌+◌, ◌≤◌, ◌<◌, ◌⊎◌, List, length, Option, Some, None, IsSomeAnd, slice_get, get_or}
use Rattle.std.proofs.Common.{sym, ◌∙◌, ap, subst, ⊎_elim, arith}
use Rattle.std.proofs.lemmas.Bool.{cases_lt}
use Rattle.std.proofs.lemmas.Option.{slice_get_cases, slice_get_within}
use Rattle.plan_model.specs.declared.cover.Cover.{Cover}
use Rattle.plan_model.specs.declared.spot.Spot.{Spot}
use Rattle.plan_model.specs.Network.{Network, IsPlan}
use Rattle.plan_model.specs.Covered.{Covered}
use Rattle.plan_model.specs.Verdicts.{HasSpot, Safe, Tight}
use Rattle.plan_classes.specs.Titles.{Titles, IsMember, spot_of}
use Rattle.plan_classes.specs.Classes.{start_of}
use Rattle.plan_classes.specs.Classes.Reachable.{Start}
use Rattle.plan_check.specs.Ranking.{rank_in}
use Rattle.plan_check.specs.Ranked.{RanksUpTo, IsRankedClass, StartsBelow}
use Rattle.plan_check.proofs.Soundness.{some_of, ranked_safe}
use Rattle.plan_check.specs.Verified.{Verified, IsVerified}
use Rattle.plan_verify.specs.declared.verdict.Verdict.TheVariants.{Accepted}
use Rattle.plan_verify.specs.Lawful.{IsLawful}
use Rattle.plan_verify.specs.declared.outcome.Greatest.{Greatest}
use Rattle.plan_verify.specs.declared.trace.Trace.{Trace}
use Rattle.plan_verify.specs.Searching.{Keeps, IsSound, MayExplore, HasStart}
use Rattle.plan_verify.specs.Traces.{IsTrace, IsWay}
use Rattle.plan_verify.specs.Ends.{IsBadRoute}
use Rattle.plan_verify.proofs.Keeping.{some_kept}
use Rattle.plan_check.proofs.Greatest.{wider}
use Rattle.plan_verify.proofs.Tracing.{start_has, start_node, start_covered}

-- the class is the start of this cover
abbrev pub IsStartOf : Network → ℕ → Titles → Type 0
IsStartOf plan number c = IsSomeAnd (slice_get plan.covers number) (λ cover. c ≡ start_of number cover)

pub may_start : (plan : Network) (number : ℕ) (c : Titles) → IsPlan plan → IsStartOf plan number c → MayExplore plan c 0
may_start plan number c is start =
    let s = some_of (slice_get plan.covers number) (λ cover. c ≡ start_of number cover) start in
    subst (λ (t : Titles). MayExplore plan t 0) (sym s.2)
    (record {
      node = start_node plan number s.0 is s.1;
      cover = slice_get_within plan.covers number s.0 s.1;
      reached = Start number s.0 s.1;
    })

-- the starts so far have ranks up to this one
abbrev pub AreBelow : Network → List (Titles × ℕ) → ℕ → ℕ → Type 0
AreBelow plan ranks count greatest = (number : ℕ) (cover : Cover) → number < count → slice_get plan.covers number ≡ Some cover
    → RanksUpTo (rank_in ranks) greatest (start_of number cover)

pub starts_next : (plan : Network) (old new : List (Titles × ℕ)) (n least greatest rank : ℕ) (c : Titles) → Keeps old new
    → IsStartOf plan n c → rank_in new c ≡ Some rank → least ≤ greatest → rank ≤ greatest → AreBelow plan old n least
    → AreBelow plan new (n + 1) greatest
starts_next plan old new n least greatest rank c keeps start here le above below number cover lt at =
    ⊎_elim
    (λ (l : number < n). wider (rank_in new (start_of number cover)) least greatest le
    (some_kept old new (λ s. s ≤ least) (start_of number cover) keeps (below number cover l at)))
    (λ (g : n ≤ number).
    let same : number ≡ n = omega arith in
    let one : c ≡ start_of n cover = subst (λ (o : Option Cover). IsSomeAnd o (λ k. c ≡ start_of n k))
    (ap (slice_get plan.covers) (sym same) ∙ at) start in
    let its : c ≡ start_of number cover = one ∙ ap (λ (k : ℕ). start_of k cover) (sym same) in
    subst (λ (o : Option ℕ). IsSomeAnd o (λ s. s ≤ greatest)) (sym (sym (ap (rank_in new) its) ∙ here)) above)
    (cases_lt number n)

start_kept : (plan : Network) (old new : List (Titles × ℕ)) (g : Greatest) → Keeps old new → HasStart plan old g → HasStart plan new g
start_kept plan old new g keeps h =
    elim (slice_get plan.covers g.cover) as (λ o. IsSomeAnd o (λ cover. rank_in old (start_of g.cover cover) ≡ Some g.rank)
    → IsSomeAnd o (λ cover. rank_in new (start_of g.cover cover) ≡ Some g.rank)) [
      | None ↦ λ k. k
      | Some cover ↦ λ k. keeps.kept (start_of g.cover cover) g.rank k
    ] h

start_has_rank : (plan : Network) (ranks : List (Titles × ℕ)) (g : Greatest) (n rank : ℕ) (c : Titles) → IsStartOf plan n c
    → rank_in ranks c ≡ Some rank → g.cover ≡ n → g.rank ≡ rank → HasStart plan ranks g
start_has_rank plan ranks g n rank c start here cover_is rank_is =
    let s = some_of (slice_get plan.covers n) (λ cover. c ≡ start_of n cover) start in
    let base : IsSomeAnd (slice_get plan.covers n) (λ cover. rank_in ranks (start_of n cover) ≡ Some rank) =
    subst (λ (o : Option Cover). IsSomeAnd o (λ cover. rank_in ranks (start_of n cover) ≡ Some rank)) (sym s.1)
    (sym (ap (rank_in ranks) s.2) ∙ here) in
    subst (λ (r : ℕ). IsSomeAnd (slice_get plan.covers g.cover) (λ cover. rank_in ranks (start_of g.cover cover) ≡ Some r)) (sym rank_is)
    (subst (λ (k : ℕ). IsSomeAnd (slice_get plan.covers k) (λ cover. rank_in ranks (start_of k cover) ≡ Some rank)) (sym cover_is) base)

pub some_next : (plan : Network) (old new : List (Titles × ℕ)) (n rank : ℕ) (c : Titles) (old_greatest greatest : Greatest) → Keeps old new
    → IsStartOf plan n c → rank_in new c ≡ Some rank → (greatest ≡ old_greatest) ⊎ ((greatest.cover ≡ n) × (greatest.rank ≡ rank))
    → (1 ≤ old_greatest.rank → HasStart plan old old_greatest) → 1 ≤ greatest.rank → HasStart plan new greatest
some_next plan old new n rank c old_greatest greatest keeps start here one before some =
    ⊎_elim
    (λ (same : greatest ≡ old_greatest).
    subst (HasStart plan new) (sym same)
    (start_kept plan old new old_greatest keeps (before (subst (λ (g : Greatest). 1 ≤ g.rank) same some))))
    (λ (its : (greatest.cover ≡ n) × (greatest.rank ≡ rank)). start_has_rank plan new greatest n rank c start here its.0 its.1)
    one

pub starts_end : (plan : Network) (ranks : List (Titles × ℕ)) (n greatest : ℕ) → IsPlan plan → IsSound plan ranks → length plan.covers ≤ n
    → AreBelow plan ranks n greatest → StartsBelow plan (rank_in ranks) greatest × (1 ≤ greatest)
starts_end plan ranks n greatest is sound all below = (each, some)
  where
    each : StartsBelow plan (rank_in ranks) greatest
    each number cover at = below number cover (let lt : number
        < length plan.covers = slice_get_within plan.covers number cover at in omega arith) at

    some : 1 ≤ greatest
    some =
        ⊎_elim
        (λ (at : (x : Cover) × (0 < length plan.covers) × (slice_get plan.covers 0 ≡ Some x) × (get_or plan.covers 0 x ≡ x)).
        let s = some_of (rank_in ranks (start_of 0 at.0)) (λ r. r ≤ greatest) (each 0 at.0 at.2) in
        let ranked : IsRankedClass plan (rank_in ranks) (start_of 0 at.0) s.0 = sound.ranked (start_of 0 at.0) s.0 s.1 in
        omega (arith, ranked.low, s.2))
        (λ (past : (length plan.covers ≤ 0) × (slice_get plan.covers 0 ≡ None)). absurd (omega (arith, past.0, is.some_cover)))
        (slice_get_cases plan.covers 0).1

-- ranks of the starts show that the plan is safe for the greatest of them, which is from 1 to 14
pub starts_safe : (plan : Network) (ranks : List (Titles × ℕ)) (g : Greatest) → IsPlan plan → IsSound plan ranks
    → StartsBelow plan (rank_in ranks) g.rank → HasStart plan ranks g → (1 ≤ g.rank) × (g.rank ≤ 14) × Safe plan g.rank
starts_safe plan ranks g is sound each has =
    let s = some_of (slice_get plan.covers g.cover) (λ cover. rank_in ranks (start_of g.cover cover) ≡ Some g.rank) has in
    let ranked = sound.ranked (start_of g.cover s.0) g.rank s.2 in
    (ranked.low, ranked.high, ranked_safe plan (rank_in ranks) g.rank is sound.ranked each)

-- a title of a start whose route is as long as the bound shows that the bound is tight
pub tight_from : (plan : Network) (number bound : ℕ) (c : Titles) (t : Trace) (s : Spot) → IsPlan plan → IsStartOf plan number c
    → IsWay plan c bound t → s ≡ spot_of c t.digits → Tight plan bound s t.markings
tight_from plan number bound c t s is start way at =
    subst (λ (z : Spot). Tight plan bound z t.markings) (sym at)
    (record {
      covered =
          let k = some_of (slice_get plan.covers number) (λ cover. c ≡ start_of number cover) start in
          subst (λ (q : Titles). Covered plan (spot_of q t.digits)) (sym k.2)
          (start_covered plan number k.0 t.digits is k.1 (subst (λ (q : Titles). IsMember q t.digits) k.2 way.member));
      count = way.count;
      hops = way.each;
    })

-- a checked plan gives a lawful verdict
pub lawful_checked : (plan : Network) (v : Verified) → v.plan ≡ plan → IsVerified v → IsLawful plan (Accepted v)
lawful_checked plan v same is = subst (λ (p : Network). IsLawful p (Accepted v)) same
    (record { some = is.some; few = is.few; safe = is.safe }, is.tight, is.range)

-- the spot of a bad route from a start
pub start_spot : (plan : Network) (number : ℕ) (t : Trace) (c : Titles) (s : Spot) → IsPlan plan → IsStartOf plan number c
    → s ≡ spot_of c t.digits → IsSomeAnd (slice_get plan.covers number) (λ cover. IsTrace plan (start_of number cover) 0 t)
    → HasSpot plan number s × (s.node < length plan.nodes) × IsBadRoute plan number 0 s t.markings
start_spot plan number t c s is start at has =
    let k = some_of (slice_get plan.covers number) (λ cover. c ≡ start_of number cover) start in
    let trace : IsTrace plan (start_of number k.0) 0 t =
    subst (λ (o : Option Cover). IsSomeAnd o (λ cover. IsTrace plan (start_of number cover) 0 t)) k.1 has in
    let here : s ≡ spot_of (start_of number k.0) t.digits = at ∙ ap (λ (q : Titles). spot_of q t.digits) k.2 in (
      subst (HasSpot plan number) (sym here) (start_has plan number k.0 t.digits is k.1 trace.member),
      subst (λ (z : Spot). z.node < length plan.nodes) (sym here) (start_node plan number k.0 is k.1),
      subst (λ (z : Spot). IsBadRoute plan number 0 z t.markings) (sym here) trace.bad,
    )
