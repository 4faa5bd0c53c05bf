-- What becomes of octets at a node over all markings, each outcome with the condition under which it is the one.
use Rattle.std.specs.Prelude.{◌≡◌, true, option_map, ℕ, Bool, ◌&&◌, ◌==◌, not, if◌then◌else◌, List, [], ◌∷◌, map, Option, Some, None}
use Rattle.std.specs.Prelude.{Result, Ok, Err}
use Rattle.std.specs.List.{list_any}
use Rattle.sccp_base.specs.declared.mark.Mark.{Mark}
use Rattle.sccp_base.specs.declared.mark.Mark.TheVariants.{Subsystem}
use Rattle.sccp_base.specs.Marks as base
use Rattle.sccp_address.specs.declared.address.Address.{Address}
use Rattle.sccp_message.specs.declared.message.Message.{Message}
use Rattle.sccp_message.specs.declared.fault.DecodeFault.{DecodeFault}
use Rattle.sccp_message.specs.Reading.{reading}
use Rattle.sccp_message.specs.Unitdata.{called_of, hops_of}
use Rattle.plan_model.specs.declared.spot.Spot.{Spot}
use Rattle.plan_model.specs.Network.{Network}
use Rattle.sccp_scrc.specs.Arriving.{arrival, after_step, at_subsystem, is_last_hop, point_of, subsystems_of}
use Rattle.sccp_scrc.specs.Returning.{returned}
use Rattle.sccp_scrc.specs.Rewriting.{spot_of}
use Rattle.sccp_scrc.specs.declared.arrival.Arrival.{Arrival}
use Rattle.sccp_scrc.specs.declared.arrival.Arrival.TheVariants.{Relayed, Ended, Local, Returned, Connection, Management, Undecodable}
use Rattle.sccp_scrc.specs.declared.service.Service.{Service}
use Rattle.sccp_scrc.specs.declared.way.Way.{Way}
use Rattle.sccp_scrc.specs.declared.way.Way.TheVariants.{Direct, Shut, ByTitle}
use Rattle.relay_ways.specs.Conditions.{condition, always, meets}
use Rattle.relay_ways.specs.Turns.{Turn, turns_of}
use Rattle.relay_ways.specs.declared.condition.Condition.{Condition}

-- What becomes of octets if a condition is met. The arrival names no marks, and no way back is shut in it.
pub record Outcome : Type 0 where
  pub condition : Condition
  pub arrival : Arrival

abbrev pub outcome : Condition → Arrival → Outcome
outcome c a = record { condition = c; arrival = a }

-- what a turn makes of the message
abbrev pub after_turn : Network → ℕ → ℕ → Message → Address → Turn → Outcome
after_turn plan node origin m a t = outcome t.condition (after_step plan node [] origin m a t.step)

-- routed on title: the turns of its spot
abbrev pub titled : Network → ℕ → ℕ → Message → Address → Option Spot → List Outcome
titled plan node origin m a None = outcome always (returned [] origin m 0 []) ∷ []
titled plan node origin m a (Some spot) = map (after_turn plan node origin m a) (turns_of plan spot)

-- a subsystem of the node, other than SCCP management
abbrev pub is_user : Network → ℕ → ℕ → Bool
is_user plan node ssn = not (ssn == 1) && list_any (λ own. own == ssn) (subsystems_of plan node)

-- a subsystem of the node is open or prohibited
abbrev pub at_user : Network → ℕ → ℕ → Message → ℕ → List Outcome
at_user plan node origin m ssn =
    outcome (condition [] (Subsystem (point_of plan node) ssn ∷ [])) (Local ssn m)
    ∷ outcome (condition ((Subsystem (point_of plan node) ssn ∷ []) ∷ []) []) (returned [] origin m 3 [])
    ∷ []

-- routed on the subsystem number: only a subsystem of the node has two outcomes
abbrev pub on_subsystem : Network → ℕ → ℕ → Message → Option ℕ → List Outcome
on_subsystem plan node origin m None = outcome always (at_subsystem plan node [] origin m None) ∷ []
on_subsystem plan node origin m (Some ssn) =
    if is_user plan node ssn then at_user plan node origin m ssn
    else outcome always (at_subsystem plan node [] origin m (Some ssn)) ∷ []

-- by the called address
abbrev pub by_address : Network → ℕ → ℕ → Message → Option Address → List Outcome
by_address plan node origin m None = outcome always (Connection m) ∷ []
by_address plan node origin m (Some a) =
    if a.by_ssn then on_subsystem plan node origin m a.ssn
    else if is_last_hop (hops_of m) then outcome always (returned [] origin m 12 []) ∷ []
    else titled plan node origin m a (spot_of node a)

-- by what reading gives
abbrev pub outcomes_of : Network → ℕ → ℕ → Result Message DecodeFault → List Outcome
outcomes_of plan node origin (Err fault) = outcome always (Undecodable fault) ∷ []
outcomes_of plan node origin (Ok m) = by_address plan node origin m (called_of m)

-- what becomes of octets that arrive from an origin at a node, over all markings; some of the conditions no marking meets
abbrev pub outcomes : Network → ℕ → ℕ → List ℕ → List Outcome
outcomes plan node origin b = outcomes_of plan node origin (reading b)

-- the conditions of outcomes
abbrev pub outcome_conditions : List Outcome → List Condition
outcome_conditions os = map (λ o. o.condition) os

-- a way that is shut, as if it were not
abbrev pub cleared_way : Way → Way
cleared_way (Direct pc) = Direct pc
cleared_way (Shut mark) = Direct (base.point_of mark)
cleared_way ByTitle = ByTitle

abbrev pub cleared_service : Service → Service
cleared_service s = record { octets = s.octets; way = cleared_way s.way }

-- an arrival without its marks and with no way back shut
abbrev pub cleared : Arrival → Arrival
cleared (Relayed pc octets) = Relayed pc octets
cleared (Ended pc ssn octets) = Ended pc ssn octets
cleared (Local ssn m) = Local ssn m
cleared (Returned cause marks service) = Returned cause [] (option_map cleared_service service)
cleared (Connection m) = Connection m
cleared (Management m) = Management m
cleared (Undecodable fault) = Undecodable fault

-- if the marking meets the outcome's condition, it is what becomes of the octets
abbrev pub Becomes : Network → ℕ → ℕ → List ℕ → List Mark → Outcome → Type 0
Becomes plan node origin b marking o = meets marking o.condition ≡ true → cleared (arrival plan node marking origin b) ≡ o.arrival
