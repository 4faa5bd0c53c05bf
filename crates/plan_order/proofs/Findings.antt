-- what the search makes of its parts
use Rattle.std.specs.Prelude.{ℕ, ◌≡◌, ◌<◌, true, false, IsTrue, List, [], ◌∷◌, ◌++◌, length, slice_index_or, refl}
use Rattle.std.specs.List.{All, Any, AllPairs}
use Rattle.std.proofs.Common.{sym, ◌∙◌, ap, subst, inl, inr, ⊎_elim, arith, length-append}
use Rattle.std.proofs.lemmas.Bool.{false≢true, true≢false, cases_Bool}
use Rattle.std.proofs.lemmas.List.{get_or_default}
use Rattle.std.proofs.lemmas.List.Elements.{All-cons, All-nil, All-append}
use Rattle.plan_model.specs.Network.{Network}
use Rattle.plan_model.specs.SameNodes.{SameNodes}
use Rattle.plan_mixed.specs.declared.holding.Holding.{Holding}
use Rattle.plan_mixed.specs.Mixed.{MixedReachAtLeast}
use Rattle.plan_change.specs.declared.answer.Change.{Change}
use Rattle.plan_change.specs.declared.answer.Change.TheVariants.{Kept, Broken, TooWide}
use Rattle.plan_change.specs.Changes.{IsLawfulUnder}
use Rattle.plan_change.proofs.SafeMixtures.{safe_not_bad_under}
use Rattle.plan_order.specs.declared.safe_step.SafeStep.{SafeStep}
use Rattle.plan_order.specs.declared.known.Known.{Known}
use Rattle.plan_order.specs.declared.found.Found.{Found}
use Rattle.plan_order.specs.declared.found.Found.TheVariants.{Steps, Nowhere, GaveUp}
use Rattle.plan_order.specs.Sets.{is_in, SameSet, Differs}
use Rattle.plan_order.specs.Steps.{during, IsSafeFor, IsSafeStep, IsReached, IsStep}
use Rattle.plan_order.specs.Orders.{IsDeadEnd, IsRefusal}
use Rattle.plan_order.specs.declared.outcome.Outcome.TheVariants.{Refused}
use Rattle.plan_order.specs.Refusing.{Refuses}
use Rattle.plan_order.specs.Searching.{IsSplit, outcome_of, IsOutcome, IsNextStep, IsGrown, IsClosed, IsKnown, IsWayOn, IsFoundIf}
use Rattle.plan_order.specs.Searching.{without}
use Rattle.plan_order.proofs.Members.{in-left, in-right, in-All, All-in, in-among}
use Rattle.plan_order.proofs.Joining.{pairs_append}
use Rattle.plan_order.proofs.Parts.{goes_on_same}
use Rattle.plan_order.proofs.DeadEnds.{dead_end}

-- two lists have the same relays if each has those of the other
pub same_from : (a b : List ℕ) → All (λ own. IsTrue (is_in b own)) a → All (λ own. IsTrue (is_in a own)) b → SameSet a b
same_from a b there back n =
    ⊎_elim (λ (h : is_in a n ≡ true). h ∙ sym (in-All (λ (m : ℕ). is_in b m ≡ true) a n there h))
    (λ (h : is_in a n ≡ false). h ∙ sym (⊎_elim
    (λ (k : is_in b n ≡ true). absurd (false≢true (sym h ∙ in-All (λ (m : ℕ). is_in a m ≡ true) b n back k)))
    (λ (k : is_in b n ≡ false). k) (cases_Bool (is_in b n)))) (cases_Bool (is_in a n))

pub same_there : (a b : List ℕ) → SameSet a b → All (λ own. IsTrue (is_in b own)) a
same_there a b same = All-in (λ (m : ℕ). is_in b m ≡ true) a (λ n h. sym (same n) ∙ h)

pub same_back : (a b : List ℕ) → SameSet a b → All (λ own. IsTrue (is_in a own)) b
same_back a b same = All-in (λ (m : ℕ). is_in a m ≡ true) b (λ n h. same n ∙ h)

-- what a walk says of the step
pub outcome_lawful : (old new : Network) (done step : List ℕ) (change : Change)
    → IsLawfulUnder (during (length old.nodes) done step) old new change → IsOutcome old new done step (outcome_of change)
outcome_lawful old new done step (Kept bound spot turns) lawful = ((lawful.0, lawful.1), (spot, turns, lawful.2))
outcome_lawful old new done step (Broken i j spot turns hops kind) bad =
    λ safe. safe_not_bad_under (during (length old.nodes) done step) old new safe.0 i j spot turns hops kind safe.1.0 safe.1.1 bad.0
outcome_lawful old new done step TooWide wide = wide

-- a true answer by which a step is refused shows a bad mixed route
pub refusal_of : (may : List Holding) (old new : Network) (change : Change) → outcome_of change ≡ Refused
    → IsLawfulUnder may old new change → IsRefusal may old new change
refusal_of may old new (Broken i j spot turns hops kind) is lawful = lawful
refusal_of may old new (Kept bound spot turns) is lawful = absurd (cc)
refusal_of may old new TooWide is lawful = absurd (cc)

-- what is known after a step that was too wide
pub known_wide : (old new : Network) (before after : Known) → after.dead ≡ before.dead
    → after.refusals ≡ before.refusals → after.wide ≡ true
    → MixedReachAtLeast old new old.limits.classes → IsKnown old new before → IsKnown old new after
known_wide old new before after same kept wide classes known = record {
  classes = λ h. classes;
  apart = subst (AllPairs (λ (a : List ℕ) (b : List ℕ). SameSet a b → ⊥)) (sym same) known.apart;
  ends = λ h. absurd (true≢false (sym wide ∙ h));
  refused = subst (All (Refuses old new)) (sym kept) known.refused;
}

-- and after one more dead end
pub known_more : (old new : Network) (before after : Known) (done : List ℕ) → after.dead ≡ before.dead ++ done ∷ []
    → after.refusals ≡ before.refusals → after.wide ≡ before.wide → (Any (λ set. SameSet set done) before.dead → ⊥)
    → All (Differs old new) done → (before.wide ≡ false → IsDeadEnd old new done) → IsKnown old new before → IsKnown old new after
known_more old new before after done same kept wide fresh differ dead known = record {
  classes = λ h. known.classes (sym wide ∙ h);
  apart = subst (AllPairs (λ (a : List ℕ) (b : List ℕ). SameSet a b → ⊥)) (sym same)
      (pairs_append (λ (a : List ℕ) (b : List ℕ). SameSet a b → ⊥) before.dead (done ∷ []) known.apart
      (pairs_one done)
      (λ k d lt. All-cons (λ (b : List ℕ). SameSet (at k d) b → ⊥) done [] (λ is. fresh (k, at k d, lt, there k d lt, is))
      (All-nil (λ (b : List ℕ). SameSet (at k d) b → ⊥))));
  ends = λ h. subst (All (λ (set : List ℕ). All (Differs old new) set × IsDeadEnd old new set)) (sym same)
      (All-append (λ (set : List ℕ). All (Differs old new) set × IsDeadEnd old new set) before.dead (done ∷ [])
      (known.ends (sym wide ∙ h))
      (All-cons (λ (set : List ℕ). All (Differs old new) set × IsDeadEnd old new set) done [] (differ, dead (sym wide ∙ h))
      (All-nil (λ (set : List ℕ). All (Differs old new) set × IsDeadEnd old new set))));
  refused = subst (All (Refuses old new)) (sym kept) known.refused;
}
  where
    at : ℕ → List ℕ → List ℕ
    at k d = slice_index_or before.dead k d

    there : (k : ℕ) (d : List ℕ) → k < length before.dead → slice_index_or before.dead k (at k d) ≡ at k d
    there k d lt = get_or_default before.dead k (at k d) d lt

    pairs_one : (x : List ℕ) → AllPairs (λ (a : List ℕ) (b : List ℕ). SameSet a b → ⊥) (x ∷ [])
    pairs_one x i j d lt within = absurd (omega (arith, lt, within))

-- a set that was met as a dead end is one
pub known_dead : (old new : Network) (known : Known) (done : List ℕ) → SameNodes old new → IsKnown old new known
    → Any (λ set. SameSet set done) known.dead → known.wide ≡ false → IsDeadEnd old new done
known_dead old new known done nodes is_known (k, set, lt, is, same) narrow steps on =
    let end : IsDeadEnd old new (slice_index_or known.dead k set) = (is_known.ends narrow k set lt).1 in
    subst (IsDeadEnd old new) is end steps (goes_on_same old new done set nodes (λ n differs. sym (same n)) steps on)

-- the step of one relay
pub next_alone : (old new : Network) (done left : List ℕ) (node : ℕ) (step : SafeStep) → is_in left node ≡ true
    → IsStep old new done step → step.nodes ≡ node ∷ [] → IsNextStep old new done left step
next_alone old new done left node step inside safe is = record {
  safe = safe;
  among = subst (All (λ (n : ℕ). IsTrue (is_in left n))) (sym is)
      (All-cons (λ (n : ℕ). IsTrue (is_in left n)) node [] inside (All-nil (λ (n : ℕ). IsTrue (is_in left n))));
  ascending = subst (AllPairs (λ (a : ℕ) (b : ℕ). a < b)) (sym is) (λ i j d lt within. absurd (omega (arith, lt, within)));
  some = subst (λ (s : List ℕ). 0 < length s) (sym is) (omega arith);
}

-- the step with one more relay, or as it was
pub next_grown : (old new : Network) (done left : List ℕ) (step more : SafeStep) (node : ℕ) → is_in left node ≡ true
    → IsNextStep old new done left step → IsGrown old new done step node more → IsNextStep old new done left more
next_grown old new done left step more node inside next (inl same) = subst (IsNextStep old new done left) (sym same) next
next_grown old new done left step more node inside next (inr (before, is, safe)) = record {
  safe = safe;
  among = subst (All (λ (n : ℕ). IsTrue (is_in left n))) (sym is)
      (All-append (λ (n : ℕ). IsTrue (is_in left n)) step.nodes (node ∷ []) next.among
      (All-cons (λ (n : ℕ). IsTrue (is_in left n)) node [] inside (All-nil (λ (n : ℕ). IsTrue (is_in left n)))));
  ascending = subst (AllPairs (λ (a : ℕ) (b : ℕ). a < b)) (sym is)
      (pairs_append (λ (a : ℕ) (b : ℕ). a < b) step.nodes (node ∷ []) next.ascending
      (λ i j d lt within. absurd (omega (arith, lt, within)))
      (λ k d lt. All-cons (λ (b : ℕ). slice_index_or step.nodes k d < b) node [] (before k d lt)
      (All-nil (λ (b : ℕ). slice_index_or step.nodes k d < b))));
  some = let size = ap (λ (s : List ℕ). length s) is ∙ length-append step.nodes (node ∷ []) in omega (arith, size, next.some);
}

-- no step is left
pub way_none : (old new : Network) (done left : List ℕ) → left ≡ [] → IsSplit old new done left → IsWayOn old new done left []
way_none old new done left none split = record {
  safe = tt;
  on = λ n differs. ⊎_elim (λ (h : is_in done n ≡ true). h)
      (λ (h : is_in done n ≡ false).
      absurd (false≢true (subst (λ (s : List ℕ). is_in s n ≡ true) none (split.whole n differs h)))) (cases_Bool (is_in done n));
  among = tt;
}

-- all relays that are left as one step
pub way_last : (old new : Network) (done left : List ℕ) (bound : ℕ) → 0 < length left → IsSplit old new done left
    → IsSafeFor old new done left bound → IsReached old new done left bound
    → IsWayOn old new done left (record { nodes = left; bound = bound } ∷ [])
way_last old new done left bound some split safe reached = record {
  safe = ((safe, reached), tt);
  on = (
    (bound, safe),
    λ n differs. ⊎_elim (λ (h : is_in done n ≡ true). in-left done left n h)
        (λ (h : is_in done n ≡ false). in-right done left n (split.whole n differs h)) (cases_Bool (is_in done n)),
  );
  among = (All-in (λ (n : ℕ). is_in left n ≡ true) left (λ n h. h), record { some = some; ascending = split.ascending }, tt);
}

-- a step, and then the steps that are found after it
pub way_front : (old new : Network) (done left : List ℕ) (step : SafeStep) (steps : List SafeStep) → IsNextStep old new done left step
    → IsWayOn old new (done ++ step.nodes) (without left step.nodes) steps → IsWayOn old new done left (step ∷ steps)
way_front old new done left step steps next way = record {
  safe = (next.safe, way.safe);
  on = ((step.bound, next.safe.0), way.on);
  among = (next.among, record { some = next.some; ascending = next.ascending }, way.among);
}

-- no order goes on if no relay that is left can be next
pub dead_if_closed : (old new : Network) (done left : List ℕ) → SameNodes old new → IsSplit old new done left → 0 < length left
    → All (IsClosed old new done) left → IsDeadEnd old new done
dead_if_closed old new done [] nodes split some closed = absurd (omega (arith, some))
dead_if_closed old new done (m ∷ left) nodes split some closed =
    dead_end old new done (m ∷ left) m nodes split closed (in-among (m ∷ left) m (inl refl))

pub dead_if_refused : (old new : Network) (done left : List ℕ) → SameNodes old new → IsSplit old new done left → 0 < length left
    → All (λ node. IsSafeStep old new done (node ∷ []) → ⊥) left → IsDeadEnd old new done
dead_if_refused old new done left nodes split some refused =
    dead_if_closed old new done left nodes split some (λ k d lt. inl (refused k d lt))

-- what is found shows another fact
pub found_for : (old new : Network) (done left : List ℕ) (P Q : Type 0) (known : Known) (found : Found) → (P → Q)
    → IsFoundIf old new done left P known found → IsFoundIf old new done left Q known found
found_for old new done left P Q known (Steps steps) h is = is
found_for old new done left P Q known Nowhere h is = λ narrow. h (is narrow)
found_for old new done left P Q known GaveUp h is = is
