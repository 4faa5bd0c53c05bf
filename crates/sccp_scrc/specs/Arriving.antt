-- What a relay does with a message: SCCP routing control (ITU-T Q.714 section 2).
use Rattle.std.specs.Prelude.{ℕ, Bool, false, ◌==◌, nat_le, not, List, [], ◌∷◌, Option, Some, None, if◌then◌else◌, slice_get, Result, Ok}
use Rattle.std.specs.Prelude.{Err}
use Rattle.std.specs.List.{list_any}
use Rattle.std.specs.Option.{option_map_or}
use Rattle.sccp_base.specs.Marks.{holds}
use Rattle.sccp_base.specs.declared.mark.Mark.{Mark}
use Rattle.sccp_base.specs.declared.mark.Mark.TheVariants.{Subsystem}
use Rattle.sccp_address.specs.declared.address.Address.{Address}
use Rattle.sccp_message.specs.declared.message.Message.{Message}
use Rattle.sccp_message.specs.declared.fault.DecodeFault.{DecodeFault}
use Rattle.sccp_message.specs.Reading.{reading}
use Rattle.sccp_message.specs.Unitdata.{called_of, hops_of}
use Rattle.plan_model.specs.declared.spot.Spot.{Spot}
use Rattle.plan_model.specs.declared.hop.Step.{Step}
use Rattle.plan_model.specs.declared.hop.Step.TheVariants as steps
use Rattle.plan_model.specs.Network.{Network}
pub use Rattle.plan_model.specs.Network.{point_of}
use Rattle.plan_model.specs.Steps.{step}
use Rattle.sccp_scrc.specs.declared.arrival.Arrival.{Arrival}
use Rattle.sccp_scrc.specs.declared.arrival.Arrival.TheVariants.{Relayed, Ended, Local, Connection, Management, Undecodable}
use Rattle.sccp_scrc.specs.Unitdata.{octets_of}
use Rattle.sccp_scrc.specs.Rewriting.{rewritten, spot_of}
use Rattle.sccp_scrc.specs.Returning.{returned}

-- the subsystems of a node
abbrev pub subsystems_of : Network → ℕ → List ℕ
subsystems_of plan node = option_map_or (λ n. n.subsystems) (slice_get plan.nodes node) []

-- Routed on SSN: 1 is SCCP management; another must be a subsystem of the node that is not prohibited.
abbrev pub at_subsystem : Network → ℕ → List Mark → ℕ → Message → Option ℕ → Arrival
at_subsystem plan node marking origin m None = returned marking origin m 4 []
at_subsystem plan node marking origin m (Some ssn) =
    if ssn == 1 then Management m
    else if not (list_any (λ own. own == ssn) (subsystems_of plan node)) then returned marking origin m 4 []
    else if holds marking (Subsystem (point_of plan node) ssn) then returned marking origin m 3 (Subsystem (point_of plan node) ssn ∷ [])
    else Local ssn m

-- a message that leaves the node; if it cannot be written it is returned for cause 9
abbrev pub leaving : List Mark → ℕ → Message → (List ℕ → Arrival) → Option (List ℕ) → Arrival
leaving marking origin m as_octets (Some octets) = as_octets octets
leaving marking origin m as_octets None = returned marking origin m 9 []

-- what a step makes of the message
abbrev pub after_step : Network → ℕ → List Mark → ℕ → Message → Address → Step → Arrival
after_step plan node marking origin m a (steps.Sent next target) =
    leaving marking origin m (Relayed (point_of plan next.node)) (octets_of (rewritten a (steps.Sent next target) m))
after_step plan node marking origin m a (steps.Ended pc ssn target) =
    if pc == point_of plan node then Local ssn (rewritten a (steps.Ended pc ssn target) m)
    else leaving marking origin m (Ended pc ssn) (octets_of (rewritten a (steps.Ended pc ssn target) m))
after_step plan node marking origin m a (steps.Blocked cause marks) = returned marking origin m cause marks
after_step plan node marking origin m a (steps.NoRow cause) = returned marking origin m cause []
after_step plan node marking origin m a steps.Overgrown = returned marking origin m 9 []

-- global title translation; without a title of digits the message is returned for cause 0
abbrev pub translated : Network → ℕ → List Mark → ℕ → Message → Address → Option Spot → Arrival
translated plan node marking origin m a (Some spot) = after_step plan node marking origin m a (step plan spot marking)
translated plan node marking origin m a None = returned marking origin m 0 []

-- the hop counter is used up by one more translation
abbrev pub is_last_hop : Option ℕ → Bool
is_last_hop hops = option_map_or (λ n. nat_le n 1) hops false

-- routed on title: first the hop counter is tested
abbrev pub at_title : Network → ℕ → List Mark → ℕ → Message → Address → Arrival
at_title plan node marking origin m a =
    if is_last_hop (hops_of m) then returned marking origin m 12 []
    else translated plan node marking origin m a (spot_of node a)

-- by the called address; a message without one is connection-oriented
abbrev pub by_called : Network → ℕ → List Mark → ℕ → Message → Option Address → Arrival
by_called plan node marking origin m None = Connection m
by_called plan node marking origin m (Some a) =
    if a.by_ssn then at_subsystem plan node marking origin m a.ssn else at_title plan node marking origin m a

-- by what reading gives
abbrev pub of_message : Network → ℕ → List Mark → ℕ → Result Message DecodeFault → Arrival
of_message plan node marking origin (Err fault) = Undecodable fault
of_message plan node marking origin (Ok m) = by_called plan node marking origin m (called_of m)

-- what becomes of octets that arrive from an origin at a node which holds a marking
abbrev pub arrival : Network → ℕ → List Mark → ℕ → List ℕ → Arrival
arrival plan node marking origin b = of_message plan node marking origin (reading b)
