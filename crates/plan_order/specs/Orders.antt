-- What an answer says of an order of steps from one plan to another.
use Rattle.std.specs.Prelude.{ℕ, ◌≡◌, ◌≢◌, ◌<◌, ◌≤◌, ◌⊎◌, false, IsTrue, List, [], ◌∷◌, ◌++◌, length, map}
use Rattle.std.specs.List.{All, Any, AllPairs, concat}
use Rattle.plan_model.specs.Network.{Network}
use Rattle.plan_mixed.specs.Mixed.{MixedReachAtLeast}
use Rattle.plan_mixed.specs.declared.holding.Holding.{Holding}
use Rattle.plan_change.specs.declared.answer.Change.{Change}
use Rattle.plan_change.specs.declared.answer.Change.TheVariants.{Kept, Broken, TooWide}
use Rattle.plan_change.specs.Changes.{IsBrokenUnder}
use Rattle.plan_order.specs.declared.safe_step.SafeStep.{SafeStep}
use Rattle.plan_order.specs.declared.stuck.Stuck.{Stuck}
use Rattle.plan_order.specs.declared.answer.Order.{Order}
use Rattle.plan_order.specs.declared.answer.Order.TheVariants.{Steps, NoOrder, Undecided}
use Rattle.plan_order.specs.Sets.{is_in, SameSet, IsStepSet, AreStepSets, Differs}
use Rattle.plan_order.specs.Steps.{during, IsSafeStep, AreSteps, sets_of}

-- Safe steps after these relays. After the last of them all relays whose rows differ have the new plan.
abbrev pub GoesOn : Network → Network → List ℕ → List (List ℕ) → Type 0
GoesOn old new done [] = (node : ℕ) → Differs old new node → IsTrue (is_in done node)
GoesOn old new done (step ∷ steps) = IsSafeStep old new done step × GoesOn old new (done ++ step) steps

-- an order of sets of relays, none of which is given the new plan twice
abbrev pub IsOrder : Network → Network → List (List ℕ) → Type 0
IsOrder old new steps = GoesOn old new [] steps × AllPairs (λ a b. a ≢ b) (concat steps)

-- no safe steps go on from this set of relays until all that differ have the new plan
abbrev pub IsDeadEnd : Network → Network → List ℕ → Type 0
IsDeadEnd old new done = (steps : List (List ℕ)) → GoesOn old new done steps → ⊥

-- at least this number of sets of relays whose rows differ, no two of them the same, each of which is a dead end
abbrev pub HasDeadEnds : Network → Network → ℕ → Type 0
HasDeadEnds old new count =
    (sets : List (List ℕ)) × (count ≤ length sets) × AllPairs (λ a b. SameSet a b → ⊥) sets
    × All (λ set. All (Differs old new) set × IsDeadEnd old new set) sets

-- a bad mixed route, in range, of what these relays may hold
abbrev pub IsRefusal : List Holding → Network → Network → Change → Type 0
IsRefusal may old new (Kept bound spot turns) = ⊥
IsRefusal may old new (Broken i j spot turns hops kind) = IsBrokenUnder may old new i j spot turns hops kind
IsRefusal may old new TooWide = ⊥

-- a relay that is left after these, and the bad mixed route of the step of this relay only
pub record IsStuck (old new : Network) (done : List ℕ) (stuck : Stuck) : Type 0 where
  pub differs : Differs old new stuck.node
  pub left : is_in done stuck.node ≡ false
  pub why : IsRefusal (during (length old.nodes) done (stuck.node ∷ [])) old new stuck.why

-- an order, each step of which is safe for its bound, which one of its mixed routes reaches; only relays that differ are in steps,
-- and each step has one
pub record IsLawfulSteps (old new : Network) (steps : List SafeStep) : Type 0 where
  pub order : IsOrder old new (sets_of steps)
  pub safe : AreSteps old new [] steps
  pub differ : All (Differs old new) (concat (sets_of steps))
  pub sets : All IsStepSet (sets_of steps)

-- There is no order. The steps are safe one after the other, of relays that differ, and after them no relay that is left can be next.
-- Those that are left are in the order of the plan.
pub record IsLawfulRefusal (old new : Network) (steps : List SafeStep) (stuck : List Stuck) : Type 0 where
  pub none : (sets : List (List ℕ)) → IsOrder old new sets → ⊥
  pub safe : AreSteps old new [] steps
  pub differ : All (Differs old new) (concat (sets_of steps))
  pub sets : AreStepSets (sets_of steps)
  pub each : All (IsStuck old new (concat (sets_of steps))) stuck
  pub whole : (node : ℕ) → Differs old new node → is_in (concat (sets_of steps)) node ≡ false → Any (λ s. s.node ≡ node) stuck
  pub ordered : AllPairs (λ a b. a < b) (map (λ s. s.node) stuck)

-- An order is one, and if none is given there is none. It is undecided only if there are many dead ends, or the two plans reach at
-- least as many classes as the old plan's limit says.
abbrev pub IsLawfulOrder : Network → Network → Order → Type 0
IsLawfulOrder old new (Steps steps) = IsLawfulSteps old new steps
IsLawfulOrder old new (NoOrder steps stuck) = IsLawfulRefusal old new steps stuck
IsLawfulOrder old new Undecided = HasDeadEnds old new 256 ⊎ MixedReachAtLeast old new old.limits.classes
