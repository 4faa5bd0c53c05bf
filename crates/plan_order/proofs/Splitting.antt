-- what is left after a step, and the steps that a search finds
use Rattle.std.specs.Prelude.{ℕ, ◌≡◌, ◌≢◌, ◌<◌, Bool, true, false, not, IsTrue, List, [], ◌∷◌, ◌++◌, length, refl}
use Rattle.std.specs.List.{All, AllPairs, filter, concat}
use Rattle.std.proofs.Common.{sym, ◌∙◌, subst, inl, ⊎_elim, arith}
use Rattle.std.proofs.lemmas.Bool.{false≢true, or_parts}
use Rattle.std.proofs.lemmas.List.Elements.{All-append, All-cons, All-filter, All-nil}
use Rattle.std.proofs.lemmas.List.Filters.{length-filter_both}
use Rattle.std.proofs.lemmas.List.Kept.{AllPairs-filter}
use Rattle.sccp_base.proofs.Among.{Among, Among-filter}
use Rattle.plan_model.specs.Network.{Network}
use Rattle.plan_order.specs.declared.safe_step.SafeStep.{SafeStep}
use Rattle.plan_order.specs.Sets.{is_in, IsStepSet, Differs}
use Rattle.plan_order.specs.Steps.{sets_of}
use Rattle.plan_order.specs.Orders.{IsLawfulSteps}
use Rattle.plan_order.specs.Searching.{IsSplit, AreAmong, IsWayOn, is_out, without}
use Rattle.plan_order.proofs.Members.{in-append, out-both, in-either, in-All, All-in, among-in, in-among, in-without, without-in}
use Rattle.plan_order.proofs.Joining.{pairs_none, pairs_append, pairs_map}

-- what is done and what is left after a step of some relays that are left
pub split_after : (old new : Network) (done left step : List ℕ) → IsSplit old new done left → All (λ node. IsTrue (is_in left node)) step
    → IsSplit old new (done ++ step) (without left step)
split_after old new done left step split among = record {
  before = All-append (Differs old new) done step split.before
      (All-in (Differs old new) step (λ n h. in-All (Differs old new) left n split.after
      (in-All (λ (m : ℕ). is_in left m ≡ true) step n among h)));
  after = All-filter (is_out step) (Differs old new) left split.after;
  ascending = AllPairs-filter (λ (a : ℕ) (b : ℕ). a < b) (is_out step) left split.ascending;
  apart = λ n h. let k = in-without left step n h in out-both done step n (split.apart n k.0) k.1;
  whole = λ n differs out. let k = or_parts (is_in done n) (is_in step n) (sym (in-append done step n) ∙ out) in
      without-in left step n (split.whole n differs k.0) k.1;
}

not_out : (b : Bool) → b ≡ not (not b)
not_out true = refl
not_out false = refl

has_one : (xs : List ℕ) (n : ℕ) → Among n xs → 0 < length xs
has_one [] n m = absurd m
has_one (x ∷ xs) n m = omega arith

-- fewer relays are left after a step of one or more of them
pub fewer_left : (left step : List ℕ) → All (λ node. IsTrue (is_in left node)) step → 0 < length step
    → length (without left step) < length left
fewer_left left [] among some = absurd (omega (arith, some))
fewer_left left (n ∷ step) among some =
    let both = length-filter_both (is_out (n ∷ step)) (is_in (n ∷ step)) (λ m. not_out (is_in (n ∷ step) m)) left in
    let one : Among n (filter (is_in (n ∷ step)) left) =
    Among-filter (is_in (n ∷ step)) n left (in-among (n ∷ step) n (inl refl)) (among-in left n (among 0 n (omega arith))) in
    let more = has_one (filter (is_in (n ∷ step)) left) n one in
    omega (arith, both, more)

-- the same of lists that are known by equations
pub split_to : (old new : Network) (done left step further rest : List ℕ) → further ≡ done ++ step → rest ≡ without left step
    → IsSplit old new done left → All (λ node. IsTrue (is_in left node)) step → IsSplit old new further rest
split_to old new done left step further rest e f split among =
    subst (λ (d : List ℕ). IsSplit old new d rest) (sym e)
    (subst (IsSplit old new (done ++ step)) (sym f) (split_after old new done left step split among))

pub fewer_to : (left step rest : List ℕ) → rest ≡ without left step → All (λ node. IsTrue (is_in left node)) step → 0 < length step
    → length rest < length left
fewer_to left step rest e among some =
    subst (λ (s : List ℕ). length s < length left) (sym e) (fewer_left left step among some)

-- the relays of all steps are left
pub all_left : (left : List ℕ) (sets : List (List ℕ)) → AreAmong left sets → (n : ℕ) → is_in (concat sets) n ≡ true → is_in left n ≡ true
all_left left [] among n h = absurd (false≢true h)
all_left left (step ∷ sets) among n h =
    ⊎_elim (λ (k : is_in step n ≡ true). in-All (λ (m : ℕ). is_in left m ≡ true) step n among.0 k)
    (λ (k : is_in (concat sets) n ≡ true). (in-without left step n (all_left (without left step) sets among.2 n k)).0)
    (in-either step (concat sets) n h)

-- no relay is in two of them
pub no_repeats : (left : List ℕ) (sets : List (List ℕ)) → AreAmong left sets → AllPairs (λ (a : ℕ) (b : ℕ). a ≢ b) (concat sets)
no_repeats left [] among = pairs_none (λ (a : ℕ) (b : ℕ). a ≢ b)
no_repeats left (step ∷ sets) among =
    pairs_append (λ (a : ℕ) (b : ℕ). a ≢ b) step (concat sets)
    (pairs_map (λ (a : ℕ) (b : ℕ). a < b) (λ (a : ℕ) (b : ℕ). a ≢ b) step (λ a b lt e. omega (arith, lt, e)) among.1.ascending)
    (no_repeats (without left step) sets among.2)
    (All-in (λ (a : ℕ). All (λ (b : ℕ). a ≢ b) (concat sets)) step
    (λ a h. All-in (λ (b : ℕ). a ≢ b) (concat sets)
    (λ b k e. false≢true (sym (in-without left step b (all_left (without left step) sets among.2 b k)).1
    ∙ subst (λ (c : ℕ). is_in step c ≡ true) e h))))

-- each of them has a relay
all_sets : (left : List ℕ) (sets : List (List ℕ)) → AreAmong left sets → All IsStepSet sets
all_sets left [] among = All-nil IsStepSet
all_sets left (step ∷ sets) among = All-cons IsStepSet step sets among.1 (all_sets (without left step) sets among.2)

-- the steps that are found from the beginning are an order
pub steps_lawful : (old new : Network) (left : List ℕ) (steps : List SafeStep) → IsSplit old new [] left
    → IsWayOn old new [] left steps → IsLawfulSteps old new steps
steps_lawful old new left steps split way = record {
  order = (way.on, no_repeats left (sets_of steps) way.among);
  safe = way.safe;
  differ = All-in (Differs old new) (concat (sets_of steps))
      (λ n h. in-All (Differs old new) left n split.after (all_left left (sets_of steps) way.among n h));
  sets = all_sets left (sets_of steps) way.among;
}
