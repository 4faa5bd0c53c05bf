-- The steps of a spot over all markings, each with the condition under which it is made.
use Rattle.std.specs.Prelude.{◌≡◌, ◌≤◌, ◌+◌, ℕ, true, length, IsSomeAnd, List, [], ◌∷◌, ◌++◌, map, Option, Some, None, slice_get}
use Rattle.std.specs.Option.{option_map_or}
use Rattle.sccp_base.specs.declared.mark.Mark.{Mark}
use Rattle.plan_rules.specs.declared.target.Target.{Target}
use Rattle.plan_rules.specs.Rule.{Rule}
use Rattle.plan_model.specs.declared.node.Node.{Node}
use Rattle.plan_model.specs.declared.spot.Spot.{Spot}
use Rattle.plan_model.specs.declared.hop.Step.{Step}
use Rattle.plan_model.specs.declared.hop.Step.TheVariants.{Sent, Ended, Blocked, NoRow, Overgrown}
use Rattle.plan_model.specs.Network.{Network}
use Rattle.plan_model.specs.Steps.{row_for, led, cause_of, step}
use Rattle.plan_model.specs.Targets.{marks}
use Rattle.relay_ways.specs.Conditions.{condition, always, meets}
use Rattle.relay_ways.specs.declared.condition.Condition.{Condition}

-- a step of a spot, and the condition under which it is made
pub record Turn : Type 0 where
  pub condition : Condition
  pub step : Step

abbrev pub turn : Condition → Step → Turn
turn c s = record { condition = c; step = s }

-- A target is taken if a mark of each earlier one is held, and none of its own. The targets from a place on, after others
-- with these marks:
abbrev pub taken_turns : Network → Node → Spot → List (List Mark) → ℕ → List Target → List Turn
taken_turns plan node spot before place [] = []
taken_turns plan node spot before place (t ∷ ts) = turn (condition before (marks node spot.ssn t)) (led plan node spot place t)
    ∷ taken_turns plan node spot (before ++ marks node spot.ssn t ∷ []) (place + 1) ts

-- All targets are closed, and the last one by one of its marks; the marks before that one are free.
abbrev pub closed_turns : List (List Mark) → List Mark → List Mark → List Turn
closed_turns before free [] = []
closed_turns before free (m ∷ ms) = turn (condition (before ++ (m ∷ []) ∷ []) free) (Blocked (cause_of m) [])
    ∷ closed_turns before (free ++ m ∷ []) ms

abbrev pub closed_row : Node → ℕ → List (List Mark) → List Target → List Turn
closed_row node ssn before [] = []
closed_row node ssn before (t ∷ []) = closed_turns before [] (marks node ssn t)
closed_row node ssn before (t ∷ u ∷ ts) = closed_row node ssn (before ++ marks node ssn t ∷ []) (u ∷ ts)

-- by the row that counts
abbrev pub turns_by : Network → Node → Spot → Option Rule → List Turn
turns_by plan node spot None = turn always (step plan spot []) ∷ []
turns_by plan node spot (Some r) = taken_turns plan node spot [] 0 r.targets ++ closed_row node spot.ssn [] r.targets

-- the steps of a spot over all markings
abbrev pub turns_of : Network → Spot → List Turn
turns_of plan spot = option_map_or (λ node. turns_by plan node spot (row_for node spot)) (slice_get plan.nodes spot.node) []

-- a step without the marks that close its targets
abbrev pub without_marks : Step → Step
without_marks (Blocked cause marks) = Blocked cause []
without_marks (Sent next place) = Sent next place
without_marks (Ended pc ssn place) = Ended pc ssn place
without_marks (NoRow cause) = NoRow cause
without_marks Overgrown = Overgrown

-- if the marking meets the turn's condition, the step is the turn's
abbrev pub Makes : Step → List Mark → Turn → Type 0
Makes s marking t = meets marking t.condition ≡ true → without_marks s ≡ t.step

abbrev pub HasTarget : Option Rule → Type 0
HasTarget None = Unit {0}
HasTarget (Some r) = 1 ≤ length r.targets

-- the spot is at a node of the plan, whose row for it, if there is one, has a target
abbrev pub HasRow : Network → Spot → Type 0
HasRow plan spot = IsSomeAnd (slice_get plan.nodes spot.node) (λ node. HasTarget (row_for node spot))

-- the conditions of turns
abbrev pub turn_conditions : List Turn → List Condition
turn_conditions turns = map (λ t. t.condition) turns
