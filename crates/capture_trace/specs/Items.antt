-- What is reported of one thing in a packet: what it is counted as, and the line that it gives, if any.
use Rattle.std.specs.Prelude.{ℕ, ◌+◌, ◌&&◌, ◌||◌, ◌==◌, nat_le, nat_lt, Bool, not, if◌then◌else◌, List, ◌++◌, length, slice_index}
use Rattle.std.specs.Prelude.{codes, decimal, Option, Some, None}
use Rattle.hex.specs.Hex.{encode_upper}
use Rattle.m3ua_data.specs.Carried.{Payload}
use Rattle.plan_model.specs.Network.{Network}
use Rattle.m3ua_trace.specs.Imported.{Imported, Refused, OtherService, OtherPoint, UnknownNode, NoOctets, Message, from_payload, imported}
use Rattle.m3ua_trace.specs.Imported.{message_line}
use Rattle.packet_layers.specs.Layers.{m2pa}
use Rattle.packet_layers.specs.Values.{DataChunk, Transferred, Carried, Chunk, BadChunk, Signal, Bare, Unread, Other}
use Rattle.user_messages.specs.declared.given.Given.{Given}
use Rattle.user_messages.specs.declared.given.Given.TheVariants.{Whole, Repeated, Waits}
use Rattle.user_messages.specs.declared.place.Place.{Place}
use Rattle.user_messages.specs.Gathering.{Gathered, received, took}
use Rattle.capture_trace.specs.declared.counts.Counts.{Counts}
use Rattle.capture_trace.specs.declared.kind.Kind.{Kind}
use Rattle.capture_trace.specs.declared.kind.Kind.TheVariants as kinds
use Rattle.capture_trace.specs.declared.subject.Subject.{Subject}
use Rattle.capture_trace.specs.Words.{on_packet, on_chunk, skipped, fault_words, chunk_fault_word}

pub record Item : Type 0 where
  pub kind : Kind
  pub line : Option (List ℕ)

-- the counts after one more thing of a kind
abbrev pub counted : Kind → Counts → Counts
counted kinds.Message c = record c { messages = c.messages + 1 }
counted kinds.Left c = record c { left = c.left + 1 }
counted kinds.Repeated c = record c { repeated = c.repeated + 1 }
counted kinds.Other c = record c { others = c.others + 1 }
counted kinds.Fault c = record c { faults = c.faults + 1 }
counted kinds.Waiting c = c

-- what gives no line
abbrev pub silent : Kind → Item
silent kind = record { kind = kind; line = None }

-- what is left out, and why
abbrev pub left : Subject → List ℕ → Item
left s words = record { kind = kinds.Left; line = Some (skipped s words) }

-- what cannot be read, and why
abbrev pub fault : Subject → List ℕ → Item
fault s words = record { kind = kinds.Fault; line = Some (skipped s words) }

-- ---- messages

-- the greatest number of octets for SCCP in a line of a trace
abbrev pub most_octets : ℕ
most_octets = 4072

-- a message for a relay of the plan, which has to fit a line
unfoldable pub message_item : Subject → List ℕ → ℕ → List ℕ → Item
message_item s name origin octets =
    if nat_lt most_octets (length octets) then left s (codes "long")
    else record { kind = kinds.Message; line = Some (message_line name origin octets) }

-- what became of a DATA message, or of a message of MTP3
unfoldable pub imported_item : Subject → Imported → Item
imported_item s (Refused number) = left s (codes "refused " ++ decimal number)
imported_item s (OtherService service) = left s (codes "service " ++ decimal service)
imported_item s OtherPoint = left s (codes "point")
imported_item s UnknownNode = left s (codes "unknown node")
imported_item s NoOctets = left s (codes "empty")
imported_item s (Message name origin octets) = message_item s name origin octets

-- the same fields as those of protocol data of M3UA
abbrev pub payload_of : Transferred → Payload
payload_of t = record { origin = t.origin; destination = t.destination; service = t.service; payload = t.payload }

-- a message of SCCP without point codes
unfoldable pub bare_item : Subject → List ℕ → Item
bare_item s octets =
    if length octets == 0 then left s (codes "empty")
    else if nat_lt most_octets (length octets) then left s (codes "long")
    else left s (codes "sccp " ++ encode_upper octets)

-- what a packet carries, but for a DATA chunk, which is taken together with others
unfoldable pub carried_item : Network → Subject → Carried → Item
carried_item plan s (Chunk k c) = silent kinds.Other
carried_item plan s (BadChunk k why) = fault (on_chunk s.packet k) (chunk_fault_word why)
carried_item plan s (Signal t) = imported_item s (from_payload plan (payload_of t))
carried_item plan s (Bare octets) = bare_item s octets
carried_item plan s (Unread why) = fault s (fault_words why)
carried_item plan s Other = silent kinds.Other

-- ---- user messages of SCTP

-- Payload protocol 3 is M3UA (RFC 4666, section 1.4.7). Port 2905 is that of M3UA, too, since some senders write the payload
-- protocol in the other order of octets, or none.
unfoldable pub is_for_m3ua : DataChunk → Bool
is_for_m3ua c = (c.protocol == 3) || ((c.flow.source == 2905) || (c.flow.destination == 2905))

-- payload protocol 5 is M2PA (RFC 4165, section 1.3)
unfoldable pub is_read : DataChunk → Bool
is_read c = is_for_m3ua c || (c.protocol == 5)

-- a message of M3UA (version 1) of another class or type than DATA
unfoldable pub is_other_m3ua : List ℕ → Bool
is_other_m3ua b = nat_le 8 (length b) && ((slice_index b 0 == 1) && not ((slice_index b 2 == 1) && (slice_index b 3 == 1)))

unfoldable pub m3ua_item : Network → Subject → List ℕ → Item
m3ua_item plan s b = if is_other_m3ua b then silent kinds.Other else imported_item s (imported plan b)

-- a whole user message, by its last chunk
unfoldable pub user_item : Network → Subject → DataChunk → List ℕ → Item
user_item plan s c b = if is_for_m3ua c then m3ua_item plan s b else carried_item plan s (m2pa b)

-- a chunk of whose user message no others came in time
abbrev pub alone : Place → Item
alone place = fault (on_chunk place.packet place.chunk) (codes "alone")

-- what a DATA chunk gives
unfoldable pub given_item : Network → Subject → DataChunk → Given → Item
given_item plan s c (Whole octets) = user_item plan s c octets
given_item plan s c Repeated = silent kinds.Repeated
given_item plan s c (Waits None) = silent kinds.Waiting
given_item plan s c (Waits (Some place)) = alone place

-- ---- one thing in a packet

-- what is kept of DATA chunks after it, and what is reported of it
pub record Step : Type 0 where
  pub gathered : Gathered
  pub item : Item

abbrev pub stays : Gathered → Item → Step
stays g item = record { gathered = g; item = item }

abbrev pub place_of : ℕ → ℕ → Place
place_of packet chunk = record { packet = packet; chunk = chunk }

abbrev pub given_step : Network → Subject → DataChunk → Gathered × Given → Step
given_step plan s c r = record { gathered = r.0; item = given_item plan s c r.1 }

-- a DATA chunk of a packet
unfoldable pub chunk_step : Network → ℕ → Gathered → ℕ → DataChunk → Step
chunk_step plan packet g k c =
    if is_read c then given_step plan (on_chunk packet k) c (took g (received (place_of packet k) c))
    else stays g (silent kinds.Other)

unfoldable pub found_step : Network → ℕ → Gathered → Carried → Step
found_step plan packet g (Chunk k c) = chunk_step plan packet g k c
found_step plan packet g (BadChunk k why) = stays g (carried_item plan (on_packet packet) (BadChunk k why))
found_step plan packet g (Signal t) = stays g (carried_item plan (on_packet packet) (Signal t))
found_step plan packet g (Bare octets) = stays g (carried_item plan (on_packet packet) (Bare octets))
found_step plan packet g (Unread why) = stays g (carried_item plan (on_packet packet) (Unread why))
found_step plan packet g Other = stays g (carried_item plan (on_packet packet) Other)
