-- The verdict on a captured message, by what was found among the arrivals that wait.
use Rattle.std.specs.Prelude.{ℕ, Bool, ◌&&◌, ◌==◌, true, if◌then◌else◌, Option, Some, None, Result, Ok, Err}
use Rattle.std.specs.List.{list_any}
use Rattle.std.specs.Option.{option_and_then}
use Rattle.sccp_address.specs.declared.address.Address.{Address}
use Rattle.sccp_message.specs.declared.fault.DecodeFault.{DecodeFault}
use Rattle.sccp_message.specs.declared.message.Message.{Message}
use Rattle.sccp_message.specs.declared.message.Message.TheVariants.{Udt, Xudt, Ludt}
use Rattle.sccp_message.specs.Unitdata.{called_of}
use Rattle.sccp_manage.specs.Statuses.{status_of}
use Rattle.sccp_manage.specs.declared.status.StatusMessage.{StatusMessage}
use Rattle.plan_model.specs.Network.{Network, point_of}
use Rattle.sccp_scrc.specs.Arriving.{subsystems_of}
use Rattle.relay_ways.specs.Alike.{calling_of}
use Rattle.relay_watch.specs.Arrivals.{source, target, is_management}
use Rattle.relay_watch.specs.declared.event.Event.{Event}
use Rattle.relay_watch.specs.declared.found.Found.{Found}
use Rattle.relay_watch.specs.declared.verdict.Verdict.{Verdict}
use Rattle.relay_watch.specs.declared.verdict.Verdict.TheVariants as verdicts
use Rattle.relay_watch.specs.declared.why.Why.{Why}

-- no point code, or this one
abbrev pub is_point : ℕ → Option ℕ → Bool
is_point here None = true
is_point here (Some pc) = pc == here

-- a subsystem of the relay
abbrev pub equipped : Network → ℕ → ℕ → Option ℕ
equipped plan node ssn = if list_any (λ own. own == ssn) (subsystems_of plan node) then Some ssn else None

-- the subsystem of the relay that a calling address names, which routes on it and names no other point
abbrev pub own_ssn : Network → ℕ → Address → Option ℕ
own_ssn plan node calling =
    if calling.by_ssn && is_point (point_of plan node) calling.pc then option_and_then (equipped plan node) calling.ssn else None

abbrev pub if_own : Option ℕ → Why → Verdict
if_own None why = verdicts.Unexplained why
if_own (Some ssn) why = verdicts.Own ssn

-- what a message for SCCP management says, if its type carries data of management
abbrev pub said_by : Message → Option StatusMessage
said_by (Udt class called calling payload) = status_of payload
said_by (Xudt class hops called calling payload params) = status_of payload
said_by (Ludt class hops called calling payload params) = status_of payload
said_by m = None

-- no arrival explains the message: management sent it, or a user of the relay, or it is unexplained
abbrev pub without_reason : Network → ℕ → Message → Address → Why → Verdict
without_reason plan node m a why =
    if is_management a then verdicts.Management (said_by m) else if_own (option_and_then (own_ssn plan node) (calling_of m)) why

-- of a message that the relay at this place sent
abbrev pub of_sent : Network → ℕ → Message → Address → Option Found → Why → Verdict
of_sent plan node m a None why = without_reason plan node m a why
of_sent plan node m a (Some f) why = verdicts.Explained f.by f.ways

-- of a message that no relay of the plan sent, by the relay that it is for
abbrev pub of_unsent : Message → Address → Option ℕ → Verdict
of_unsent m a None = verdicts.Other
of_unsent m a (Some node) = if is_management a then verdicts.Management (said_by m) else verdicts.Arrived

abbrev pub by_source : Network → Event → Message → Address → Option Found → Why → Option ℕ → Verdict
by_source plan e m a found why None = of_unsent m a (target plan e)
by_source plan e m a found why (Some node) = of_sent plan node m a found why

-- by its called address; a message without one is connection-oriented
abbrev pub by_called : Network → Event → Message → Option Found → Why → Option Address → Verdict
by_called plan e m found why None = verdicts.Connection
by_called plan e m found why (Some a) = by_source plan e m a found why (source plan e)

-- by what reading gives
abbrev pub verdict_of : Network → Event → Option Found → Why → Result Message DecodeFault → Verdict
verdict_of plan e found why (Err fault) = verdicts.Undecodable fault
verdict_of plan e found why (Ok m) = by_called plan e m found why (called_of m)
