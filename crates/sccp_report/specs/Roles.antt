-- What a line of a trace is to a replay.
use Rattle.std.specs.Prelude.{ℕ, ◌<◌, Bool, false, ◌&&◌, ◌==◌, if◌then◌else◌, List, length, Option, Some, None, Result, Ok, Err}
use Rattle.std.specs.List.{position}
use Rattle.std.specs.Option.{option_map, option_map_or}
use Rattle.sccp_address.specs.declared.address.Address.{Address}
use Rattle.sccp_message.specs.Reading.{reading}
use Rattle.sccp_message.specs.declared.fault.DecodeFault.{DecodeFault}
use Rattle.sccp_message.specs.declared.message.Message.{Message}
use Rattle.sccp_message.specs.declared.message.Message.TheVariants.{Udt, Xudt, Ludt}
use Rattle.sccp_message.specs.Unitdata.{called_of}
use Rattle.sccp_manage.specs.declared.event.Event.{Event}
use Rattle.sccp_manage.specs.declared.event.Event.TheVariants as events
use Rattle.plan_model.specs.Network.{Network, has_name}
use Rattle.relay_net.specs.Batches.{Incoming, Due, due}
use Rattle.relay_net.specs.States.{CanHappen}
use Rattle.relay_net.specs.declared.happening.Happening.TheVariants.{Managed, Connected}
use Rattle.trace_text.specs.declared.line.Line.{Line}
use Rattle.trace_text.specs.declared.line.Line.TheVariants.{Msg, Pause, Resume, NoSccp, Up, Down, Tick, Plan, Fence, Skip}
use Rattle.sccp_report.specs.declared.role as answers
use Rattle.sccp_report.specs.declared.role.Role.TheVariants.{Routed, Later, Aside, Alone}

pub data Role : Type 0 where
  -- a connectionless message, which is to be routed
  routed : Incoming → Role
  -- a later plan in the file of this name
  later : List ℕ → Role
  -- nothing happens, and a batch goes on
  aside : Role
  -- the line ends the batch before it, and then this happens, if anything
  alone : Option Due → Role

-- the data of a message for management, if they can be a status message: the service messages have none
abbrev pub management_data : Message → Option (List ℕ)
management_data (Udt class called calling payload) = Some payload
management_data (Xudt class hops called calling payload params) = Some payload
management_data (Ludt class hops called calling payload params) = Some payload
management_data m = None

-- routed on subsystem number 1, which is SCCP management (ITU-T Q.713 section 3.4.2.2)
abbrev pub is_for_management : Address → Bool
is_for_management a = a.by_ssn && option_map_or (λ ssn. ssn == 1) a.ssn false

-- a message for management arrives at a node from a point
abbrev pub status_at : ℕ → ℕ → List ℕ → Due
status_at entry origin payload = due entry (Managed (events.Status origin payload))

abbrev pub status_due : Incoming → List ℕ → Due
status_due x = status_at x.entry x.origin

-- by the called address; only connectionless messages have one to be routed on
abbrev pub role_by_called : Incoming → Message → Option Address → Role
role_by_called x m None = alone (Some (due x.entry (Connected x.origin m)))
role_by_called x m (Some a) = if is_for_management a then alone (option_map (status_due x) (management_data m)) else routed x

abbrev pub role_of_message : Incoming → Result Message DecodeFault → Role
role_of_message x (Ok m) = role_by_called x m (called_of m)
role_of_message x (Err fault) = aside

abbrev pub incoming : ℕ → ℕ → List ℕ → Incoming
incoming entry origin octets = record { entry = entry; origin = origin; octets = octets }

abbrev pub role_at : ℕ → List ℕ → Option ℕ → Role
role_at origin octets None = aside
role_at origin octets (Some entry) = role_of_message (incoming entry origin octets) (reading octets)

-- the node of a name
abbrev pub named : Network → List ℕ → Option ℕ
named plan name = position (has_name name) plan.nodes

abbrev pub event_role : Network → List ℕ → Event → Role
event_role plan name event = alone (option_map (λ node. due node (Managed event)) (named plan name))

-- the nodes of the first plan are those of each later one, so any of them may be taken
abbrev pub role_of : Network → Line → Role
role_of plan (Msg node origin octets) = role_at origin octets (named plan node)
role_of plan (Pause node pc) = event_role plan node (events.Pause pc)
role_of plan (Resume node pc) = event_role plan node (events.Resume pc)
role_of plan (NoSccp node pc) = event_role plan node (events.NoSccp pc)
role_of plan (Up node ssn) = event_role plan node (events.Up ssn)
role_of plan (Down node ssn) = event_role plan node (events.Down ssn)
role_of plan (Tick node) = event_role plan node events.Tick
role_of plan (Plan file) = later file
role_of plan Fence = alone None
role_of plan Skip = aside

-- The nodes are those of the plan, and what is to happen at them can happen.
abbrev pub StandsIn : Network → Role → Type 0
StandsIn plan (routed x) = x.entry < length plan.nodes
StandsIn plan (later file) = Unit {0}
StandsIn plan aside = Unit {0}
StandsIn plan (alone None) = Unit {0}
StandsIn plan (alone (Some d)) = (d.node < length plan.nodes) × CanHappen d.what

-- what the code answers, in these words
abbrev pub as_due : answers.Due.Due → Due
as_due d = due d.node d.what

abbrev pub as_role : answers.Role.Role → Role
as_role (Routed entry origin octets) = routed (incoming entry origin octets)
as_role (Later file) = later file
as_role Aside = aside
as_role (Alone d) = alone (option_map as_due d)
