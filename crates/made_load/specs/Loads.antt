-- What becomes of the messages that are made from a number.
use Rattle.std.specs.Prelude.{ℕ, zero, suc, ◌≡◌, ◌≤◌, ◌<◌, ◌+◌, ◌-◌, ◌*◌, ◌/◌, ◌%◌, ◌^◌, ◌==◌, List, length, if◌then◌else◌}
use Rattle.sccp_base.specs.Marks.{holds}
use Rattle.sccp_base.specs.declared.mark.Mark.TheVariants.{PointCode}
use Rattle.sccp_manage.specs.declared.event.Event.{Event}
use Rattle.sccp_manage.specs.declared.event.Event.TheVariants.{Pause, Resume}
use Rattle.plan_model.specs.Network.{Network}
use Rattle.relay_net.specs.Journeys.{held_at, journey}
use Rattle.relay_net.specs.States.{State, applied, first_states, markings_of}
use Rattle.relay_net.specs.declared.happening.Happening.TheVariants.{Managed}
use Rattle.relay_net.specs.declared.travelled.Journey.{Journey}
use Rattle.made_load.specs.declared.counts.Counts.{Counts}
use Rattle.made_load.specs.declared.fate.Fate.{Fate}
use Rattle.made_load.specs.declared.fate.Fate.TheVariants.{Ended, Returned, Other}
use Rattle.made_load.specs.Draws.{after, drawn, after_digits}
use Rattle.made_load.specs.Fates.{fate_of}
use Rattle.made_load.specs.Messages.{made_octets, origin}
use Rattle.made_load.specs.Relays.{end_point, load_plan}

-- ---- what is counted

abbrev pub no_counts : Counts
no_counts = record { messages = 0; ended = 0; returned = 0; translations = 0 }

-- a message with this fate
abbrev pub with_fate : Fate → Counts → Counts
with_fate Ended c = record c { ended = c.ended + 1 }
with_fate Returned c = record c { returned = c.returned + 1 }
with_fate Other c = c

-- one more message, with a translation at each node that it reached
abbrev pub with_message : ℕ → Fate → Counts → Counts
with_message nodes fate c = with_fate fate (record c { messages = c.messages + 1; translations = c.translations + nodes })

abbrev pub counted : Journey → Counts → Counts
counted j c = with_message (length j.path) (fate_of j.end) c

-- one more message can be counted
pub record IsRoomy (c : Counts) : Type 0 where
  pub messages : c.messages < 2 ^ 32
  pub ended : c.ended < 2 ^ 32
  pub returned : c.returned < 2 ^ 32
  pub translations : c.translations < 2 ^ 36

-- ---- one message after the other

-- the state of a load: the number that the draws have reached, what the relays keep, and what was counted
pub record Load : Type 0 where
  pub at : ℕ
  pub states : List State
  pub counts : Counts

-- the relay, and the destination, that a drawn value names
abbrev pub drawn_relay : ℕ → ℕ
drawn_relay value = value / 10 % 8

abbrev pub drawn_point : ℕ → ℕ
drawn_point value = end_point (value % 10)

-- the event at a relay that it loses a point or, if it has lost it, that the point is there again
abbrev pub turn : List State → ℕ → ℕ → Event
turn states node pc = if holds (held_at (markings_of states) node) (PointCode pc) then Resume pc else Pause pc

abbrev pub turned : Network → List State → ℕ → List State
turned plan states value =
    (applied plan states (drawn_relay value) (Managed (turn states (drawn_relay value) (drawn_point value)))).states

-- before every sixty-fourth message a drawn relay loses or finds a drawn destination
abbrev pub before_message : Network → ℕ → Load → Load
before_message plan i l =
    if i % 64 == 63 then record l { at = after l.at; states = turned plan l.states (drawn l.at) } else l

-- The message's ten digits are drawn, and it arrives at the first relay. No relay has subsystems, so its end leaves nothing
-- to be done.
abbrev pub sent : Network → ℕ → Load → Load
sent plan i l =
    record l { at = after_digits 10 l.at; counts = counted (journey plan (markings_of l.states) 0 origin (made_octets i l.at)) l.counts }

-- this number of messages, from a place on
abbrev pub all_sent : Network → ℕ → ℕ → Load → Load
all_sent plan zero i l = l
all_sent plan (suc left) i l = all_sent plan left (i + 1) (sent plan i (before_message plan i l))

abbrev pub begun : ℕ → Network → Load
begun number plan = record { at = number; states = first_states plan; counts = no_counts }

-- the counts of `size` messages that are made from a number, over the relays of the number's plan
unfoldable pub load_counts : ℕ → ℕ → Counts
load_counts number size = (all_sent (load_plan number) size 0 (begun number (load_plan number))).counts

-- what the counts of this number of messages add up to: each message ends or is returned, after one to six translations
pub record AddUp (size : ℕ) (c : Counts) : Type 0 where
  pub messages : c.messages ≡ size
  pub ends : c.ended + c.returned ≡ size
  pub least : size ≤ c.translations
  pub most : c.translations ≤ 6 * size

-- at most this number of messages was counted, and there are eight relays
pub record IsAfter (count : ℕ) (l : Load) : Type 0 where
  pub states : length l.states ≡ 8
  pub messages : l.counts.messages ≤ count
  pub ended : l.counts.ended ≤ count
  pub returned : l.counts.returned ≤ count
  pub translations : l.counts.translations ≤ 15 * count

-- ---- in parts

-- the message's ten digits are drawn, but it is not sent
abbrev pub passed : Load → Load
passed l = record l { at = after_digits 10 l.at }

-- This number of messages, from a place on, is not sent. Relays lose and find destinations, and digits are drawn, as if they
-- were.
abbrev pub all_passed : Network → ℕ → ℕ → Load → Load
all_passed plan zero i l = l
all_passed plan (suc left) i l = all_passed plan left (i + 1) (passed (before_message plan i l))

-- the counts of this number of messages from a place on
abbrev pub part_counts : ℕ → ℕ → ℕ → Counts
part_counts number from count =
    (all_sent (load_plan number) count from (all_passed (load_plan number) from 0 (begun number (load_plan number)))).counts

abbrev pub plus : Counts → Counts → Counts
plus c d = record {
  messages = c.messages + d.messages;
  ended = c.ended + d.ended;
  returned = c.returned + d.returned;
  translations = c.translations + d.translations;
}

-- the place at which a part begins, of parts that are about equal
abbrev pub beginning : ℕ → ℕ → ℕ → ℕ
beginning size parts part = size * part / parts

abbrev pub counts_of_part : ℕ → ℕ → ℕ → ℕ → Counts
counts_of_part number size parts part =
    part_counts number (beginning size parts part) (beginning size parts (part + 1) - beginning size parts part)
