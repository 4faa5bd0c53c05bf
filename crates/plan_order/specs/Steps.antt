-- What each relay may hold while the relays of a step are given the new plan.
use Rattle.std.specs.Prelude.{ℕ, ◌≡◌, ◌≤◌, if◌then◌else◌, List, [], ◌∷◌, ◌++◌, length, map, Option, refl}
use Rattle.std.specs.List.{range_with_len}
use Rattle.plan_model.specs.declared.spot.Spot.{Spot}
use Rattle.plan_model.specs.Network.{Network}
use Rattle.plan_mixed.specs.declared.holding.Holding.{Holding}
use Rattle.plan_mixed.specs.declared.holding.Holding.TheVariants.{Old, New, Either}
use Rattle.plan_change.specs.declared.turn.Turn.{Turn}
use Rattle.plan_change.specs.Mixture.{SafeUnder}
use Rattle.plan_change.specs.Changes.{IsLongestUnder}
use Rattle.plan_order.specs.declared.safe_step.SafeStep.{SafeStep}
use Rattle.plan_order.specs.Sets.{is_in}

-- the new plan if the relay is done, either plan if it is of the step, and otherwise the old plan
abbrev pub holding : List ℕ → List ℕ → ℕ → Holding
holding done step node = if is_in done node then New else (if is_in step node then Either else Old)

-- what each of this number of relays may hold meanwhile
abbrev pub during : ℕ → List ℕ → List ℕ → List Holding
during count done step = map (holding done step) (range_with_len 0 count)

second_done_third_next : during 4 (1 ∷ []) (2 ∷ []) ≡ Old ∷ New ∷ Either ∷ Old ∷ []
second_done_third_next = refl

-- The step is safe for the bound after these relays: each title that both plans cover goes well within it, whatever each relay holds
-- of what it may, and whatever it has prohibited.
abbrev pub IsSafeFor : Network → Network → List ℕ → List ℕ → ℕ → Type 0
IsSafeFor old new done step bound = (bound ≤ 14) × SafeUnder (during (length old.nodes) done step) old new bound

abbrev pub IsSafeStep : Network → Network → List ℕ → List ℕ → Type 0
IsSafeStep old new done step = (bound : ℕ) × IsSafeFor old new done step bound

-- some mixed route of the step has as many hops as the bound, or the bound is 0 since no spot is covered by both plans
abbrev pub IsReached : Network → Network → List ℕ → List ℕ → ℕ → Type 0
IsReached old new done step bound =
    (spot : Option Spot) × (turns : List Turn) × IsLongestUnder (during (length old.nodes) done step) old new bound spot turns

-- a step after these relays, with its own bound
abbrev pub IsStep : Network → Network → List ℕ → SafeStep → Type 0
IsStep old new done step = IsSafeFor old new done step.nodes step.bound × IsReached old new done step.nodes step.bound

-- steps one after the other, the first of them after these relays
abbrev pub AreSteps : Network → Network → List ℕ → List SafeStep → Type 0
AreSteps old new done [] = Unit {0}
AreSteps old new done (step ∷ steps) = IsStep old new done step × AreSteps old new (done ++ step.nodes) steps

-- the relays of each step, and of all
abbrev pub sets_of : List SafeStep → List (List ℕ)
sets_of steps = map (λ step. step.nodes) steps
