-- The arrivals that wait: because of each of them its relay may still send something.
use Rattle.std.specs.Prelude.{◌≡◌, ◌≤◌, ℕ, Bool, true, false, not, ◌&&◌, ◌==◌, nat_lt, if◌then◌else◌, List, [], length, drop, slice_get}
use Rattle.std.specs.Prelude.{◌++◌, Option, Some, None, is_some, unwrap_or, Result, Ok, Err}
use Rattle.std.specs.List.{All, position, remove}
use Rattle.std.specs.Option.{option_map_or, option_to_list}
use Rattle.sccp_address.specs.declared.address.Address.{Address}
use Rattle.sccp_message.specs.declared.fault.DecodeFault.{DecodeFault}
use Rattle.sccp_message.specs.declared.message.Message.{Message}
use Rattle.sccp_message.specs.Reading.{reading}
use Rattle.sccp_message.specs.Unitdata.{called_of, payload_of}
use Rattle.plan_model.specs.Network.{Network, has_point}
use Rattle.sccp_scrc.specs.Passing.{ReadsAgain}
use Rattle.sccp_scrc.specs.Returning.{asks_for_return}
use Rattle.relay_ways.specs.Sends.{sends}
use Rattle.relay_watch.specs.declared.event.Event.{Event}
use Rattle.relay_watch.specs.declared.waiting.Waiting.{Waiting}

-- the places of the relay that sent the message and of the relay that it is for, if these are relays of the plan
abbrev pub source : Network → Event → Option ℕ
source plan e = position (has_point e.origin) plan.nodes

abbrev pub target : Network → Event → Option ℕ
target plan e = position (has_point e.destination) plan.nodes

-- for SCCP management, subsystem number 1
abbrev pub is_management : Address → Bool
is_management a = option_map_or (λ ssn. a.by_ssn && (ssn == 1)) a.ssn false

-- A relay may send something because of a message that routes on its title. Because of one that routes on the subsystem number
-- it can only return it, and not one for management.
abbrev pub may_be_answered : Message → Address → Bool
may_be_answered m a = if a.by_ssn then asks_for_return m && not (is_management a) else true

-- A message that is not judged where it arrives: it is for management, or connection-oriented, or none at all.

abbrev pub is_other_by : Option Address → Bool
is_other_by None = true
is_other_by (Some a) = is_management a

abbrev pub is_other : Result Message DecodeFault → Bool
is_other (Err fault) = true
is_other (Ok m) = is_other_by (called_of m)

-- the data of a message, none if its type has no data
abbrev pub data_of : Message → List ℕ
data_of m = unwrap_or (payload_of m) []

-- The arrival of an event at the relay at this place. It is due if the relay sends something with nothing prohibited.
abbrev pub waits : Network → ℕ → Event → Message → Waiting
waits plan node e m = record {
  number = e.number;
  node = node;
  origin = e.origin;
  octets = e.octets;
  payload = data_of m;
  due = is_some (sends plan node [] e.origin e.octets);
}

-- the arrival that begins to wait with an event, by the place of its relay
abbrev pub begins_at : Network → Event → Message → Address → Option ℕ → Option Waiting
begins_at plan e m a None = None
begins_at plan e m a (Some node) = if may_be_answered m a then Some (waits plan node e m) else None

-- by its called address; a message without one is connection-oriented
abbrev pub begins_by : Network → Event → Message → Option Address → Option Waiting
begins_by plan e m None = None
begins_by plan e m (Some a) = begins_at plan e m a (target plan e)

abbrev pub begins : Network → Event → Result Message DecodeFault → Option Waiting
begins plan e (Err fault) = None
begins plan e (Ok m) = begins_by plan e m (called_of m)

-- the most arrivals that wait
abbrev pub most_waiting : ℕ
most_waiting = 16384

-- those that wait without the one that was found, and then the new one
abbrev pub left_at : List Waiting → Option ℕ → List Waiting
left_at ws None = ws
left_at ws (Some place) = remove ws place

abbrev pub joined : List Waiting → Option ℕ → Option Waiting → List Waiting
joined ws place new = left_at ws place ++ option_to_list new

-- if more would wait, the oldest is given up
abbrev pub kept : List Waiting → List Waiting
kept ws = if nat_lt most_waiting (length ws) then drop 1 ws else ws

abbrev pub given_up : List Waiting → Option Waiting
given_up ws = if nat_lt most_waiting (length ws) then slice_get ws 0 else None

-- The same of those that wait and a new one after them: the one that was found is taken out, and otherwise the oldest if there
-- are too many.
abbrev pub ended : List Waiting → Option ℕ → List Waiting
ended ws None = kept ws
ended ws (Some place) = remove ws place

abbrev pub given_if : List Waiting → Option ℕ → Option Waiting
given_if ws None = given_up ws
given_if ws (Some place) = None

-- the octets of an arrival that waits are a message with these data, which reads again once it is written
pub record IsWaiting (w : Waiting) : Type 0 where
  pub message : Message
  pub reads : reading w.octets ≡ Ok message
  pub again : ReadsAgain message
  pub data_is : w.payload ≡ data_of message

pub record AreWaiting (ws : List Waiting) : Type 0 where
  pub each : All IsWaiting ws
  pub few : length ws ≤ most_waiting
