-- What the ends of journeys leave to be done at the nodes.
use Rattle.std.specs.Prelude.{ℕ, ◌<◌, ◌==◌, if◌then◌else◌, List, Option, Some, None, Result, Ok, Err}
use Rattle.std.specs.Option.{option_map, option_and_then}
use Rattle.sccp_address.specs.declared.address.Address.{Address}
use Rattle.sccp_manage.specs.declared.event.Event.TheVariants.{Knock}
use Rattle.sccp_message.specs.Reading.{reading}
use Rattle.sccp_message.specs.declared.message.Message.{Message}
use Rattle.sccp_message.specs.declared.fault.DecodeFault.{DecodeFault}
use Rattle.sccp_message.specs.Unitdata.{called_of}
use Rattle.plan_model.specs.Network.{Network}
use Rattle.relay_net.specs.declared.happening.Happening.{Happening}
use Rattle.relay_net.specs.declared.happening.Happening.TheVariants.{Managed, Delivered}
use Rattle.relay_net.specs.declared.end.End.{End}
use Rattle.relay_net.specs.declared.end.End.TheVariants.{Local, Returned}
use Rattle.relay_net.specs.declared.travelled.Journey.{Journey}
use Rattle.relay_net.specs.Journeys.{last_node}
use Rattle.relay_net.specs.States.{State, Applied, CanHappen, applied, nothing_at}

-- a message that is to be routed: the node at which it arrives, the point from which it arrives, and its octets
pub record Incoming : Type 0 where
  pub entry : ℕ
  pub origin : ℕ
  pub octets : List ℕ

abbrev pub incoming : ℕ → ℕ → List ℕ → Incoming
incoming entry origin octets = record { entry = entry; origin = origin; octets = octets }

-- what is to happen, and at which node
pub record Due : Type 0 where
  pub node : ℕ
  pub what : Happening

abbrev pub due : ℕ → Happening → Due
due node what = record { node = node; what = what }

-- the subsystem number of an address that routes on it
abbrev pub ssn_if_routed : Address → Option ℕ
ssn_if_routed a = if a.by_ssn then a.ssn else None

-- the subsystem number on which a message that was read routes
abbrev pub ssn_in : Result Message DecodeFault → Option ℕ
ssn_in (Ok m) = option_and_then ssn_if_routed (called_of m)
ssn_in (Err fault) = None

-- A message for a subsystem of its last node is delivered there. A message that routes on SSN and is returned with cause 3
-- was for a prohibited subsystem of the entry node. That node's management informs the origin.
abbrev pub due_after : Incoming → List ℕ → End → Option Due
due_after x path (Local ssn m) = Some (due (last_node x.entry path) (Delivered m))
due_after x path (Returned cause marks) =
    if cause == 3 then option_map (λ ssn. due x.entry (Managed (Knock x.origin ssn))) (ssn_in (reading x.octets)) else None
due_after x path end = None

-- it can happen at one of this number of nodes
abbrev pub CanBeDone : ℕ → Option Due → Type 0
CanBeDone nodes None = Unit {0}
CanBeDone nodes (Some d) = (d.node < nodes) × CanHappen d.what

-- the nodes after what is due, if anything is
abbrev pub applied_if_due : Network → List State → Option Due → Applied
applied_if_due plan states None = nothing_at states
applied_if_due plan states (Some d) = applied plan states d.node d.what

-- the nodes after a journey's end; the end of a service message changes none
abbrev pub applied_after : Network → List State → Incoming → Journey → Applied
applied_after plan states x j = applied_if_due plan states (due_after x j.path j.end)
