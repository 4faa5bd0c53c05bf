-- How a node handles octets under a marking: by which target it routes them, or for which cause it returns them.
use Rattle.std.specs.Prelude.{◌≡◌, ◌⊎◌, true, ℕ, List, [], ◌∷◌, Option, Some, None, IfSome, option_map, slice_get, Result, Ok, Err}
use Rattle.std.specs.Option.{option_and_then}
use Rattle.sccp_base.specs.declared.mark.Mark.{Mark}
use Rattle.sccp_message.specs.declared.message.Message.{Message}
use Rattle.sccp_message.specs.declared.fault.DecodeFault.{DecodeFault}
use Rattle.sccp_message.specs.Reading.{reading}
use Rattle.sccp_message.specs.Unitdata.{called_of}
use Rattle.plan_rules.specs.Rule.{Rule}
use Rattle.plan_model.specs.declared.spot.Spot.{Spot}
use Rattle.plan_model.specs.declared.hop.Step.{Step}
use Rattle.plan_model.specs.declared.hop.Step.TheVariants as steps
use Rattle.plan_model.specs.Network.{Network}
use Rattle.plan_model.specs.RowFor.{row_of}
use Rattle.plan_model.specs.Steps.{step}
use Rattle.sccp_scrc.specs.Arriving.{arrival}
use Rattle.sccp_scrc.specs.Rewriting.{spot_of}
use Rattle.sccp_scrc.specs.declared.arrival.Arrival.{Arrival}
use Rattle.sccp_scrc.specs.declared.arrival.Arrival.TheVariants.{Relayed, Ended, Local, Returned, Connection, Management, Undecodable}
use Rattle.sccp_scrc.specs.declared.service.Service.{Service}
use Rattle.sccp_scrc.specs.declared.way.Way as back
use Rattle.sccp_scrc.specs.declared.way.Way.TheVariants.{Direct, Shut, ByTitle}
use Rattle.relay_ways.specs.Conditions.{meets}
use Rattle.relay_ways.specs.Ways.{ways}
use Rattle.relay_ways.specs.declared.condition.Condition.{Condition}
use Rattle.relay_ways.specs.declared.way.Way.{Way}
use Rattle.relay_ways.specs.declared.handling.Taken.{Taken}
use Rattle.relay_ways.specs.declared.handling.Handling.{Handling}

abbrev pub at_target : ℕ → ℕ → Taken
at_target row target = record { row = row; target = target }

-- the place of the target that a step takes
abbrev pub target_of : Step → Option ℕ
target_of (steps.Sent next target) = Some target
target_of (steps.Ended pc ssn target) = Some target
target_of (steps.Blocked cause marks) = None
target_of (steps.NoRow cause) = None
target_of steps.Overgrown = None

-- the row at a place of a node's table
abbrev pub row_at : Network → ℕ → ℕ → Option Rule
row_at plan node place = option_and_then (λ n. slice_get n.table place) (slice_get plan.nodes node)

-- The target that a spot's node takes under a marking, if it takes one: its place in the row that counts for the spot, and the
-- place of that row.
pub record IsTakenAt (plan : Network) (spot : Spot) (marking : List Mark) (found : Option Taken) : Type 0 where
  pub target_is : option_map (λ t. t.target) found ≡ target_of (step plan spot marking)
  pub row_is : IfSome found (λ t. row_at plan spot.node t.row ≡ row_of plan spot)

-- the same of a title at a node; a message without one has no target
abbrev pub IsTakenBy : Network → List Mark → Option Spot → Option Taken → Type 0
IsTakenBy plan marking None found = found ≡ None
IsTakenBy plan marking (Some spot) found = IsTakenAt plan spot marking found

-- the spot of a message at a node, by what reading gives
abbrev pub spot_read : ℕ → Result Message DecodeFault → Option Spot
spot_read node (Err fault) = None
spot_read node (Ok m) = option_and_then (spot_of node) (called_of m)

-- the same of octets
abbrev pub IsTaken : Network → ℕ → List Mark → List ℕ → Option Taken → Type 0
IsTaken plan node marking b found = IsTakenBy plan marking (spot_read node (reading b)) found

-- by which target a service message goes back, if it goes by its title
abbrev pub IsTakenBack : Network → ℕ → List Mark → List ℕ → back.Way → Option Taken → Type 0
IsTakenBack plan node marking octets (Direct pc) found = found ≡ None
IsTakenBack plan node marking octets (Shut mark) found = found ≡ None
IsTakenBack plan node marking octets ByTitle found = IsTaken plan node marking octets found

abbrev pub IsServed : Network → ℕ → List Mark → Option Service → Option Taken → Type 0
IsServed plan node marking None found = found ≡ None
IsServed plan node marking (Some s) found = IsTakenBack plan node marking s.octets s.way found

-- A message that goes on has a target. One that is returned has a cause, and a target if its service message goes by title. Of all
-- else there is neither.
abbrev pub HandlesAs : Network → ℕ → List Mark → List ℕ → Arrival → Handling → Type 0
HandlesAs plan node marking b (Relayed pc octets) h = (h.cause ≡ None) × IsTaken plan node marking b h.taken
HandlesAs plan node marking b (Ended pc ssn octets) h = (h.cause ≡ None) × IsTaken plan node marking b h.taken
HandlesAs plan node marking b (Local ssn m) h = (h.cause ≡ None) × (h.taken ≡ None)
HandlesAs plan node marking b (Returned cause marks service) h = (h.cause ≡ Some cause) × IsServed plan node marking service h.taken
HandlesAs plan node marking b (Connection m) h = (h.cause ≡ None) × (h.taken ≡ None)
HandlesAs plan node marking b (Management m) h = (h.cause ≡ None) × (h.taken ≡ None)
HandlesAs plan node marking b (Undecodable fault) h = (h.cause ≡ None) × (h.taken ≡ None)

-- how the node handles octets from that origin under the marking
abbrev pub Handles : Network → ℕ → List Mark → ℕ → List ℕ → Handling → Type 0
Handles plan node marking origin b h = HandlesAs plan node marking b (arrival plan node marking origin b) h

-- one of the ways has this condition
abbrev pub HasCondition : Condition → List Way → Type 0
HasCondition c [] = ⊥
HasCondition c (w ∷ ws) = (w.condition ≡ c) ⊎ HasCondition c ws

-- If the condition is that of one of the ways of the octets, the node handles them so under each marking that meets it.
abbrev pub HandlesIf : Network → ℕ → ℕ → List ℕ → Condition → Handling → Type 0
HandlesIf plan node origin b c h = HasCondition c (ways plan node origin b) → (marking : List Mark) → meets marking c ≡ true
    → Handles plan node marking origin b h
