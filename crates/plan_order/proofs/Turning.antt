-- the steps of an order in reverse
use Rattle.std.specs.Prelude.{ℕ, ◌≡◌, ◌≢◌, ◌<◌, ◌≤◌, Bool, true, false, if◌then◌else◌, List, [], ◌∷◌, ◌++◌, length, reverse}
use Rattle.std.specs.Prelude.{Option, Some, None, IsSomeAnd, slice_get, refl}
use Rattle.std.specs.List.{All, AllPairs, concat}
use Rattle.std.proofs.Common.{suc, sym, ◌∙◌, ap, subst, inl, inr, ⊎_elim, arith}
use Rattle.std.proofs.lemmas.Bool.{false≢true, cases_Bool, cases_lt, or_parts}
use Rattle.std.proofs.lemmas.List.{append_assoc, append-nil, reverse-append}
use Rattle.plan_model.specs.declared.node.Node.{Node}
use Rattle.plan_model.specs.Network.{Network}
use Rattle.plan_model.specs.SameNodes.{SameNodes}
use Rattle.plan_mixed.specs.declared.which.Which.{Which}
use Rattle.plan_mixed.specs.declared.holding.Holding.{Holding}
use Rattle.plan_mixed.specs.declared.holding.Holding.TheVariants.{Old, New, Either}
use Rattle.plan_mixed.specs.Holdings.{chosen, MayHold}
use Rattle.plan_change.proofs.Verdicts.{same_length}
use Rattle.plan_order.specs.declared.safe_step.SafeStep.{SafeStep}
use Rattle.plan_order.specs.Sets.{is_in, IsStepSet, Differs}
use Rattle.plan_order.specs.Steps.{during, IsStep, AreSteps, sets_of}
use Rattle.plan_order.specs.Orders.{GoesOn, IsLawfulSteps}
use Rattle.plan_order.proofs.Members.{in-append, in-left, in-right, in-either, out-both, in-All, All-in}
use Rattle.plan_order.proofs.Relays.{differs_told}
use Rattle.plan_order.proofs.Parts.{may_at, may_past}
use Rattle.plan_order.proofs.Joining.{pairs_append, pairs_left, pairs_right, pairs_between}
use Rattle.plan_order.proofs.Pushed.{relays_of, relays_append, relays_one, sets_push, steps_push}
use Rattle.plan_order.proofs.Mirrors.{other, IsMirror, safe_back, longest_back}

-- ---- one step back

abbrev held_by : Bool → Bool → Holding
held_by done step = if done then New else (if step then Either else Old)

-- a relay that is done, of the step, or done back; the three are d, s and l
mirrored : (d s l : Bool) (w : Which) → (s ≡ true → d ≡ false) → (l ≡ true → (d ≡ false) × (s ≡ false))
    → (l ≡ false → s ≡ false → d ≡ true) → chosen (held_by l s) w ≡ w → chosen (held_by d s) (other w) ≡ other w
mirrored d s true w second third some h =
    let both = third refl in
    subst (λ (b : Bool). chosen (held_by d b) (other w) ≡ other w) (sym both.1)
    (subst (λ (b : Bool). chosen (held_by b false) (other w) ≡ other w) (sym both.0) (ap other h))
mirrored d true false w second third some h =
    subst (λ (b : Bool). chosen (held_by b true) (other w) ≡ other w) (sym (second refl)) refl
mirrored d false false w second third some h =
    subst (λ (b : Bool). chosen (held_by b false) (other w) ≡ other w) (sym (some refl refl)) (ap other h)

-- each relay whose rows differ is in one of three sets
pub record AreThree (old new : Network) (done step later : List ℕ) : Type 0 where
  pub first : (n : ℕ) → Differs old new n → is_in done n ≡ true → (is_in step n ≡ false) × (is_in later n ≡ false)
  pub second : (n : ℕ) → Differs old new n → is_in step n ≡ true → (is_in done n ≡ false) × (is_in later n ≡ false)
  pub third : (n : ℕ) → Differs old new n → is_in later n ≡ true → (is_in done n ≡ false) × (is_in step n ≡ false)
  pub some : (n : ℕ) → Differs old new n → is_in done n ≡ false → is_in step n ≡ false → is_in later n ≡ true

other_by : (a b : Option Node) → IsSomeAnd a (λ x. IsSomeAnd b (λ y. x.table ≢ y.table))
    → IsSomeAnd b (λ y. IsSomeAnd a (λ x. y.table ≢ x.table))
other_by None b h = absurd h
other_by (Some x) None h = absurd h
other_by (Some x) (Some y) h = λ e. h (sym e)

pub differs_back : (old new : Network) (n : ℕ) → Differs new old n → Differs old new n
differs_back old new n h = other_by (slice_get new.nodes n) (slice_get old.nodes n) h

-- what each relay may hold in the step back
mirror : (old new : Network) (done step later : List ℕ) → SameNodes old new → AreThree old new done step later
    → IsMirror old new (during (length old.nodes) done step) (during (length new.nodes) later step)
mirror old new done step later same three n w holds =
    ⊎_elim (λ (differs : Differs old new n). inl (⊎_elim (inside differs) past (cases_lt n (length old.nodes))))
    (λ alike. inr alike.1) (differs_told old new same n)
  where
    count : ℕ
    count = length old.nodes

    inside : Differs old new n → n < count → MayHold (during count done step) n (other w)
    inside differs lt =
        subst (λ (h : Holding). chosen h (other w) ≡ other w) (sym (may_at count done step n lt))
        (mirrored (is_in done n) (is_in step n) (is_in later n) w (λ s. (three.second n differs s).0) (three.third n differs)
        (λ l s. ⊎_elim (λ (d : is_in done n ≡ true). d) (λ (d : is_in done n ≡ false).
        absurd (false≢true (sym l ∙ three.some n differs d s))) (cases_Bool (is_in done n)))
        (subst (λ (h : Holding). chosen h w ≡ w)
        (may_at (length new.nodes) later step n (subst (λ (k : ℕ). n < k) (same_length old new same) lt)) holds))

    past : count ≤ n → MayHold (during count done step) n (other w)
    past le = subst (λ (h : Holding). chosen h (other w) ≡ other w) (sym (may_past count done step n le)) refl

three_back : (old new : Network) (done step later : List ℕ) → AreThree old new done step later → AreThree new old later step done
three_back old new done step later three = record {
  first = λ n differs h. let k = three.third n (differs_back old new n differs) h in (k.1, k.0);
  second = λ n differs h. let k = three.second n (differs_back old new n differs) h in (k.1, k.0);
  third = λ n differs h. let k = three.first n (differs_back old new n differs) h in (k.1, k.0);
  some = λ n differs l s. ⊎_elim (λ (d : is_in done n ≡ true). d)
      (λ (d : is_in done n ≡ false). absurd (false≢true (sym l ∙ three.some n (differs_back old new n differs) d s)))
      (cases_Bool (is_in done n));
}

step_back : (old new : Network) (done later : List ℕ) (step : SafeStep) → SameNodes old new → AreThree old new done step.nodes later
    → IsStep old new done step → IsStep new old later step
step_back old new done later step same three safe = (
  (
    safe.0.0,
    safe_back old new (during (length old.nodes) done step.nodes) (during (length new.nodes) later step.nodes) step.bound
        (mirror old new done step.nodes later same three) safe.0.1,
  ),
  longest_back old new (during (length old.nodes) done step.nodes) (during (length new.nodes) later step.nodes) step.bound
      (same_length old new same)
      (mirror new old later step.nodes done (sym same) (three_back old new done step.nodes later three)) safe.1.0 safe.1.1 safe.1.2,
)

-- ---- all steps

reverse_cons : (step : SafeStep) (steps : List SafeStep) → reverse (step ∷ steps) ≡ reverse steps ++ step ∷ []
reverse_cons step steps = reverse-append (step ∷ []) steps

-- both lists have the same relays
abbrev AreAlike : List ℕ → List ℕ → ℕ → Type 0
AreAlike xs ys n = (is_in xs n ≡ true → is_in ys n ≡ true) × (is_in ys n ≡ true → is_in xs n ≡ true)

relays_cons : (step : SafeStep) (steps : List SafeStep) → relays_of (reverse (step ∷ steps)) ≡ relays_of (reverse steps) ++ step.nodes
relays_cons step steps =
    ap relays_of (reverse_cons step steps) ∙ relays_append (reverse steps) (step ∷ [])
    ∙ ap (λ (s : List ℕ). relays_of (reverse steps) ++ s) (relays_one step)

alike_cons : (step : SafeStep) (steps : List SafeStep) (n : ℕ) → AreAlike (relays_of (reverse steps)) (relays_of steps) n
    → AreAlike (relays_of (reverse steps) ++ step.nodes) (step.nodes ++ relays_of steps) n
alike_cons step steps n ih = (
  λ h. ⊎_elim (λ k. in-right step.nodes (relays_of steps) n (ih.0 k)) (λ k. in-left step.nodes (relays_of steps) n k)
      (in-either (relays_of (reverse steps)) step.nodes n h),
  λ h. ⊎_elim (λ k. in-right (relays_of (reverse steps)) step.nodes n k)
      (λ k. in-left (relays_of (reverse steps)) step.nodes n (ih.1 k))
      (in-either step.nodes (relays_of steps) n h),
)

-- the relays of the steps in reverse are those of the steps
relays_back : (steps : List SafeStep) (n : ℕ) → AreAlike (relays_of (reverse steps)) (relays_of steps) n
relays_back [] n = (λ h. h, λ h. h)
relays_back (step ∷ steps) n =
    subst (λ (s : List ℕ). AreAlike s (step.nodes ++ relays_of steps) n) (sym (relays_cons step steps))
    (alike_cons step steps n (relays_back steps n))

out_back : (steps : List SafeStep) (n : ℕ) → is_in (relays_of steps) n ≡ false → is_in (relays_of (reverse steps)) n ≡ false
out_back steps n h =
    ⊎_elim (λ k. absurd (false≢true (sym h ∙ (relays_back steps n).0 k))) (λ k. k) (cases_Bool (is_in (relays_of (reverse steps)) n))

-- what is known of the steps from one on: each relay that differs is done before, or in exactly one of them
record IsRest (old new : Network) (done : List ℕ) (steps : List SafeStep) : Type 0 where
  whole : (n : ℕ) → Differs old new n → is_in done n ≡ false → is_in (relays_of steps) n ≡ true
  apart : (n : ℕ) → is_in (relays_of steps) n ≡ true → is_in done n ≡ false
  pairs : AllPairs (λ (a : ℕ) (b : ℕ). a ≢ b) (relays_of steps)

-- a relay of a step is in no later one
not_later : (step : SafeStep) (steps : List SafeStep) → AllPairs (λ (a : ℕ) (b : ℕ). a ≢ b) (step.nodes ++ relays_of steps)
    → (n : ℕ) → is_in step.nodes n ≡ true → is_in (relays_of steps) n ≡ false
not_later step steps pairs n h =
    ⊎_elim
    (λ (k : is_in (relays_of steps) n ≡ true).
    absurd (in-All (λ (b : ℕ). n ≢ b) (relays_of steps) n
    (in-All (λ (a : ℕ). All (λ (b : ℕ). a ≢ b) (relays_of steps)) step.nodes n
    (pairs_between (λ (a : ℕ) (b : ℕ). a ≢ b) step.nodes (relays_of steps) pairs) h) k refl))
    (λ (k : is_in (relays_of steps) n ≡ false). k) (cases_Bool (is_in (relays_of steps) n))

rest_after : (old new : Network) (done : List ℕ) (step : SafeStep) (steps : List SafeStep) → IsRest old new done (step ∷ steps)
    → IsRest old new (done ++ step.nodes) steps
rest_after old new done step steps rest = record {
  whole = λ n differs out. let k = or_parts (is_in done n) (is_in step.nodes n) (sym (in-append done step.nodes n) ∙ out) in
      ⊎_elim (λ (h : is_in step.nodes n ≡ true). absurd (false≢true (sym k.1 ∙ h))) (λ (h : is_in (relays_of steps) n ≡ true). h)
      (in-either step.nodes (relays_of steps) n (rest.whole n differs k.0));
  apart = λ n h. out-both done step.nodes n (rest.apart n (in-right step.nodes (relays_of steps) n h))
      (⊎_elim (λ (k : is_in step.nodes n ≡ true). absurd (false≢true (sym (not_later step steps rest.pairs n k) ∙ h)))
      (λ (k : is_in step.nodes n ≡ false). k) (cases_Bool (is_in step.nodes n)));
  pairs = pairs_right (λ (a : ℕ) (b : ℕ). a ≢ b) step.nodes (relays_of steps) rest.pairs;
}

three_of : (old new : Network) (done : List ℕ) (step : SafeStep) (steps : List SafeStep) → IsRest old new done (step ∷ steps)
    → AreThree old new done step.nodes (relays_of (reverse steps))
three_of old new done step steps rest = record {
  first = λ n differs h. (
    ⊎_elim (λ (k : is_in step.nodes n ≡ true).
        absurd (false≢true (sym (rest.apart n (in-left step.nodes (relays_of steps) n k)) ∙ h))) (λ (k : is_in step.nodes n ≡ false). k)
        (cases_Bool (is_in step.nodes n)),
    out_back steps n (⊎_elim (λ (k : is_in (relays_of steps) n ≡ true).
        absurd (false≢true (sym (rest.apart n (in-right step.nodes (relays_of steps) n k)) ∙ h)))
        (λ (k : is_in (relays_of steps) n ≡ false). k) (cases_Bool (is_in (relays_of steps) n))),
  );
  second = λ n differs h. (
    rest.apart n (in-left step.nodes (relays_of steps) n h),
    out_back steps n (not_later step steps rest.pairs n h),
  );
  third = λ n differs h. let k = (relays_back steps n).0 h in (
    rest.apart n (in-right step.nodes (relays_of steps) n k),
    ⊎_elim (λ (l : is_in step.nodes n ≡ true). absurd (false≢true (sym (not_later step steps rest.pairs n l) ∙ k)))
        (λ (l : is_in step.nodes n ≡ false). l) (cases_Bool (is_in step.nodes n)),
  );
  some = λ n differs d s. (relays_back steps n).1
      (⊎_elim (λ (k : is_in step.nodes n ≡ true). absurd (false≢true (sym s ∙ k))) (λ (k : is_in (relays_of steps) n ≡ true). k)
      (in-either step.nodes (relays_of steps) n (rest.whole n differs d)));
}

all_back : (old new : Network) (done : List ℕ) (steps : List SafeStep) → SameNodes old new → IsRest old new done steps
    → AreSteps old new done steps → AreSteps new old [] (reverse steps)
all_back old new done [] same rest safe = tt
all_back old new done (step ∷ steps) same rest safe =
    subst (AreSteps new old []) (sym (reverse_cons step steps))
    (steps_push new old [] (reverse steps) step
    (all_back old new (done ++ step.nodes) steps same (rest_after old new done step steps rest) safe.1)
    (step_back old new done (relays_of (reverse steps)) step same (three_of old new done step steps rest) safe.0))

-- after the last step all relays that differ are done
on_ends : (old new : Network) (done : List ℕ) (sets : List (List ℕ)) → GoesOn old new done sets → (n : ℕ) → Differs old new n
    → is_in (done ++ concat sets) n ≡ true
on_ends old new done [] on n differs = subst (λ (s : List ℕ). is_in s n ≡ true) (sym (append-nil done)) (on n differs)
on_ends old new done (step ∷ sets) on n differs =
    subst (λ (s : List ℕ). is_in s n ≡ true) (append_assoc done step (concat sets)) (on_ends old new (done ++ step) sets on.1 n differs)

steps_on : (old new : Network) (done : List ℕ) (steps : List SafeStep) → AreSteps old new done steps
    → ((n : ℕ) → Differs old new n → is_in (done ++ relays_of steps) n ≡ true) → GoesOn old new done (sets_of steps)
steps_on old new done [] safe whole = λ n differs. subst (λ (s : List ℕ). is_in s n ≡ true) (append-nil done) (whole n differs)
steps_on old new done (step ∷ steps) safe whole = (
  (step.bound, safe.0.0),
  steps_on old new (done ++ step.nodes) steps safe.1 (λ n differs.
      subst (λ (s : List ℕ). is_in s n ≡ true) (sym (append_assoc done step.nodes (relays_of steps))) (whole n differs)),
)

-- no relay is in two of the steps in reverse
pairs_back : (steps : List SafeStep) → AllPairs (λ (a : ℕ) (b : ℕ). a ≢ b) (relays_of steps)
    → AllPairs (λ (a : ℕ) (b : ℕ). a ≢ b) (relays_of (reverse steps))
pairs_back [] pairs = pairs
pairs_back (step ∷ steps) pairs =
    subst (AllPairs (λ (a : ℕ) (b : ℕ). a ≢ b)) (sym (relays_cons step steps))
    (pairs_append (λ (a : ℕ) (b : ℕ). a ≢ b) (relays_of (reverse steps)) step.nodes
    (pairs_back steps (pairs_right (λ (a : ℕ) (b : ℕ). a ≢ b) step.nodes (relays_of steps) pairs))
    (pairs_left (λ (a : ℕ) (b : ℕ). a ≢ b) step.nodes (relays_of steps) pairs)
    (All-in (λ (a : ℕ). All (λ (b : ℕ). a ≢ b) step.nodes) (relays_of (reverse steps)) (λ a h.
    All-in (λ (b : ℕ). a ≢ b) step.nodes (λ b k e.
    false≢true (sym (not_later step steps pairs b k)
    ∙ subst (λ (c : ℕ). is_in (relays_of steps) c ≡ true) e ((relays_back steps a).0 h))))))

-- each of the steps in reverse has a relay
sets_back : (steps : List SafeStep) → All IsStepSet (sets_of steps) → All IsStepSet (sets_of (reverse steps))
sets_back [] sets = sets
sets_back (step ∷ steps) sets =
    subst (λ (ss : List SafeStep). All IsStepSet (sets_of ss)) (sym (reverse_cons step steps))
    (sets_push (reverse steps) step (sets_back steps (λ k d lt. sets (suc k) d (omega (arith, lt)))) (sets 0 step.nodes (omega arith)))

-- The steps of an order in reverse are an order back.
pub turn_back : (old new : Network) (steps : List SafeStep) → SameNodes old new → IsLawfulSteps old new steps
    → IsLawfulSteps new old (reverse steps)
turn_back old new steps same lawful =
    let rest : IsRest old new [] steps = record {
      whole = λ n differs out. on_ends old new [] (sets_of steps) lawful.order.0 n differs;
      apart = λ n h. refl;
      pairs = lawful.order.1;
    } in
    let safe : AreSteps new old [] (reverse steps) = all_back old new [] steps same rest lawful.safe in
    record {
      order = (
        steps_on new old [] (reverse steps) safe (λ n differs.
            (relays_back steps n).1 (on_ends old new [] (sets_of steps) lawful.order.0 n (differs_back old new n differs))),
        pairs_back steps lawful.order.1,
      );
      safe = safe;
      differ = All-in (Differs new old) (relays_of (reverse steps)) (λ n h.
          differs_back new old n (in-All (Differs old new) (relays_of steps) n lawful.differ ((relays_back steps n).0 h)));
      sets = sets_back steps lawful.sets;
    }
