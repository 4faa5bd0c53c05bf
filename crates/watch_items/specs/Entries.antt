-- What one thing in a packet gives: a message of SCCP from one point to another, or what `capture` reports of it.
use Rattle.std.specs.Prelude.{ℕ, ◌==◌, nat_lt, if◌then◌else◌, List, length, codes, ◌++◌, decimal, Option, Some, None, Result, Ok, Err}
use Rattle.capture_trace.specs.declared.kind.Kind.TheVariants as kinds
use Rattle.capture_trace.specs.declared.subject.Subject.{Subject}
use Rattle.capture_trace.specs.Items.{Item, alone, bare_item, fault, is_for_m3ua, is_other_m3ua, is_read, left, most_octets, payload_of}
use Rattle.capture_trace.specs.Items.{place_of, silent}
use Rattle.capture_trace.specs.Words.{chunk_fault_word, fault_words, on_chunk, on_packet, text_of}
use Rattle.m3ua_data.specs.Carried.{Payload, carried_of}
use Rattle.m3ua_data.specs.Reading.{reading}
use Rattle.m3ua_data.specs.declared.fault.DataFault.{DataFault}
use Rattle.m3ua_data.specs.declared.fault.DataFault.TheVariants.{NoData}
use Rattle.m3ua_data.specs.declared.tagged.Tagged.{Tagged}
use Rattle.m3ua_trace.specs.Imported.{fault_number, sccp}
use Rattle.packet_layers.specs.Layers.{m2pa}
use Rattle.packet_layers.specs.Values.{DataChunk, Carried, Chunk, BadChunk, Signal, Bare, Unread, Other}
use Rattle.user_messages.specs.Gathering.{Gathered, received, took}
use Rattle.user_messages.specs.declared.given.Given.{Given}
use Rattle.user_messages.specs.declared.given.Given.TheVariants.{Whole, Repeated, Waits}
use Rattle.watch_items.specs.Items.{point}
use Rattle.watch_items.specs.declared.entry.Entry.{Entry}
use Rattle.watch_items.specs.declared.entry.Entry.TheVariants.{Message, Note}

-- what `capture` reports of it
abbrev pub note : Item → Entry
note item = Note item.kind (text_of item.line)

-- ---- messages

-- octets from one point to another, which have to fit a line of a trace, as for `capture`
abbrev pub between : Subject → ℕ → ℕ → List ℕ → Entry
between s origin destination octets =
    if length octets == 0 then note (left s (codes "empty"))
    else if nat_lt most_octets (length octets) then note (left s (codes "long"))
    else Message origin destination octets

-- by its destination
abbrev pub for_point : Subject → ℕ → List ℕ → Option ℕ → Entry
for_point s origin octets None = note (left s (codes "point"))
for_point s origin octets (Some destination) = between s origin destination octets

-- by its origin
abbrev pub from_point : Subject → Payload → Option ℕ → Entry
from_point s p None = note (left s (codes "point"))
from_point s p (Some origin) = for_point s origin p.payload (point p.destination)

-- by what the message carries, in the order of testing; of another service nothing is said
abbrev pub from_payload : Subject → Payload → Entry
from_payload s p = if p.service == sccp then from_point s p (point p.origin) else note (silent kinds.Other)

-- octets that are no DATA message
abbrev pub refused : Subject → DataFault → Entry
refused s why = note (left s (codes "refused " ++ decimal (fault_number why)))

-- sound parameters always carry protocol data, so the first case never arises
abbrev pub from_carried : Subject → Option Payload → Entry
from_carried s None = refused s NoData
from_carried s (Some p) = from_payload s p

-- by what reading gives
abbrev pub from_reading : Subject → Result (List Tagged) DataFault → Entry
from_reading s (Ok params) = from_carried s (carried_of params)
from_reading s (Err why) = refused s why

-- a user message for M3UA
abbrev pub from_m3ua : Subject → List ℕ → Entry
from_m3ua s octets = if is_other_m3ua octets then note (silent kinds.Other) else from_reading s (reading octets)

-- ---- what a packet carries

-- what a packet carries, but for a DATA chunk, which is taken together with others
abbrev pub carried : Subject → Carried → Entry
carried s (Chunk k c) = note (silent kinds.Other)
carried s (BadChunk k why) = note (fault (on_chunk s.packet k) (chunk_fault_word why))
carried s (Signal t) = from_payload s (payload_of t)
carried s (Bare octets) = note (bare_item s octets)
carried s (Unread why) = note (fault s (fault_words why))
carried s Other = note (silent kinds.Other)

-- a whole user message, by its last chunk
unfoldable pub user : Subject → DataChunk → List ℕ → Entry
user s c octets = if is_for_m3ua c then from_m3ua s octets else carried s (m2pa octets)

-- what a DATA chunk gives
unfoldable pub given : Subject → DataChunk → Given → Entry
given s c (Whole octets) = user s c octets
given s c Repeated = note (silent kinds.Repeated)
given s c (Waits None) = note (silent kinds.Waiting)
given s c (Waits (Some place)) = note (alone place)

-- ---- one thing in a packet

-- what is kept of DATA chunks after it, and what it gives
pub record Step : Type 0 where
  pub gathered : Gathered
  pub entry : Entry

abbrev pub stays : Gathered → Entry → Step
stays g entry = record { gathered = g; entry = entry }

abbrev pub given_step : Subject → DataChunk → Gathered × Given → Step
given_step s c r = record { gathered = r.0; entry = given s c r.1 }

-- a DATA chunk of a packet
unfoldable pub chunk_step : ℕ → Gathered → ℕ → DataChunk → Step
chunk_step packet g k c =
    if is_read c then given_step (on_chunk packet k) c (took g (received (place_of packet k) c)) else stays g (note (silent kinds.Other))

unfoldable pub found_step : ℕ → Gathered → Carried → Step
found_step packet g (Chunk k c) = chunk_step packet g k c
found_step packet g (BadChunk k why) = stays g (carried (on_packet packet) (BadChunk k why))
found_step packet g (Signal t) = stays g (carried (on_packet packet) (Signal t))
found_step packet g (Bare octets) = stays g (carried (on_packet packet) (Bare octets))
found_step packet g (Unread why) = stays g (carried (on_packet packet) (Unread why))
found_step packet g Other = stays g (carried (on_packet packet) Other)
