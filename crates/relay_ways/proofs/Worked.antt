-- A row with a relay and a destination, conditions in their shortest form, and numbers of markings, computed on the definitions.
use Rattle.std.specs.Prelude.{◌≡◌, true, false, [], ◌∷◌, map, Some, None}
use Rattle.std.proofs.Common.{refl}
use Rattle.sccp_base.specs.declared.mark.Mark.TheVariants.{PointCode, Sccp, Subsystem}
use Rattle.sccp_base.specs.Selector.{Numbers}
use Rattle.plan_rules.specs.Rule.{Rule, rule}
use Rattle.plan_rules.specs.declared.target.Target.TheVariants.{Relay, Final}
use Rattle.plan_model.specs.declared.node.Node.{Node}
use Rattle.plan_model.specs.declared.spot.Spot.{Spot}
use Rattle.plan_model.specs.Network.{network}
use Rattle.plan_model.specs.Steps.{step_by}
use Rattle.relay_ways.specs.Conditions.{condition, both, is_possible}
use Rattle.relay_ways.specs.Handling.{target_of}
use Rattle.relay_ways.specs.Markings.{markings}
use Rattle.relay_ways.specs.Settled.{settled}
use Rattle.relay_ways.specs.Turns.{turns_by}
use Rattle.relay_ways.specs.Ways.{reaches}
use Rattle.relay_ways.specs.declared.condition.Condition.{Condition}

abbrev selector : Numbers
selector = record { kind = 4; translation = 0; plan = 1; nature = 4 }

abbrev node : Node
node = record { name = []; pc = 2050; subsystems = []; concerned = []; table = [] }

abbrev spot : Spot
spot = record { node = 0; selector = selector; ssn = 6; digits = 4 ∷ 9 ∷ [] }

-- a relay at 1-0-3, and then subsystem 6 at 2-0-3
two : map (λ t. t.condition) (turns_by (network (node ∷ []) []) node spot
    (Some (rule selector None (4 ∷ []) (Relay 2051 0 [] None None ∷ Final 4099 (Some 6) ∷ []))))
    ≡ condition [] (PointCode 2051 ∷ Sccp 2051 ∷ [])
    ∷ condition ((PointCode 2051 ∷ Sccp 2051 ∷ []) ∷ []) (PointCode 4099 ∷ Sccp 4099 ∷ Subsystem 4099 6 ∷ [])
    ∷ condition ((PointCode 2051 ∷ Sccp 2051 ∷ []) ∷ (PointCode 4099 ∷ []) ∷ []) []
    ∷ condition ((PointCode 2051 ∷ Sccp 2051 ∷ []) ∷ (Sccp 4099 ∷ []) ∷ []) (PointCode 4099 ∷ [])
    ∷ condition ((PointCode 2051 ∷ Sccp 2051 ∷ []) ∷ (Subsystem 4099 6 ∷ []) ∷ []) (PointCode 4099 ∷ Sccp 4099 ∷ [])
    ∷ []
two = refl

-- the same relay twice: the second cannot be taken
twice : map (λ t. is_possible t.condition) (turns_by (network (node ∷ []) []) node spot
    (Some (rule selector None (4 ∷ []) (Relay 2051 0 [] None None ∷ Relay 2051 1 [] None None ∷ []))))
    ≡ true ∷ false ∷ true ∷ true ∷ []
twice = refl

abbrev listed : Rule
listed = rule selector None (4 ∷ []) (Relay 2051 0 [] None None ∷ Final 4099 (Some 6) ∷ [])

-- the relay's SCCP is prohibited: the second target is taken; and then the subsystem too: none
second : target_of (step_by (network (node ∷ []) []) node spot (Sccp 2051 ∷ []) (Some listed)) ≡ Some 1
second = refl

neither : target_of (step_by (network (node ∷ []) []) node spot (Sccp 2051 ∷ Subsystem 4099 6 ∷ []) (Some listed)) ≡ None
neither = refl

-- both targets are closed, the second by its point, and the service message reaches 1-0-1
returned_5 : settled (both (condition ((PointCode 2051 ∷ Sccp 2051 ∷ []) ∷ (PointCode 4099 ∷ []) ∷ []) []) (reaches 2049))
    ≡ condition ((PointCode 2051 ∷ Sccp 2051 ∷ []) ∷ (PointCode 4099 ∷ []) ∷ []) (PointCode 2049 ∷ Sccp 2049 ∷ [])
returned_5 = refl

-- a mark that must be free cannot count; then two lists are the same
shorter : settled (condition ((Sccp 2051 ∷ PointCode 2051 ∷ []) ∷ (PointCode 2051 ∷ []) ∷ []) (Sccp 2051 ∷ Sccp 2051 ∷ []))
    ≡ condition ((PointCode 2051 ∷ []) ∷ []) (Sccp 2051 ∷ [])
shorter = refl

-- the conditions of the two targets
abbrev first_open : Condition
first_open = condition [] (PointCode 2051 ∷ Sccp 2051 ∷ [])

abbrev first_closed : Condition
first_closed = condition ((PointCode 2051 ∷ Sccp 2051 ∷ []) ∷ []) (PointCode 4099 ∷ Sccp 4099 ∷ Subsystem 4099 6 ∷ [])

-- one state, a state that changes once, and a relay that takes the targets in turn
steady : markings (first_closed ∷ first_closed ∷ first_closed ∷ []) ≡ 1
steady = refl

failing : markings (first_open ∷ first_open ∷ first_closed ∷ []) ≡ 2
failing = refl

in_turn : markings (first_open ∷ first_closed ∷ first_open ∷ first_closed ∷ []) ≡ 4
in_turn = refl
