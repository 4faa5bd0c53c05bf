-- Which DATA chunks belong together (RFC 9260, sections 3.3.1 and 6.9).
use Rattle.std.specs.Prelude.{◌+◌, ◌%◌, ◌^◌, ◌&&◌, ◌||◌, ◌==◌, Bool, true, false, not}
use Rattle.packet_layers.specs.declared.flow.Flow.{Flow}
use Rattle.packet_layers.specs.Values.{DataChunk}
use Rattle.user_messages.specs.declared.key.Key.{Key}

-- what distinguishes a chunk: its association in one direction, and its transmission sequence number
abbrev pub key_of : DataChunk → Key
key_of c = record { source = c.flow.source; destination = c.flow.destination; tag = c.flow.tag; tsn = c.tsn }

abbrev pub same_key : Key → Key → Bool
same_key a b = a.source == b.source && (a.destination == b.destination && (a.tag == b.tag && a.tsn == b.tsn))

-- two chunks of one association with one number: the later one repeats the earlier one
abbrev pub same_chunk : DataChunk → DataChunk → Bool
same_chunk a b = same_key (key_of a) (key_of b)

abbrev pub same_flow : Flow → Flow → Bool
same_flow a b = a.source == b.source && (a.destination == b.destination && a.tag == b.tag)

abbrev pub same_flag : Bool → Bool → Bool
same_flag true b = b
same_flag false b = not b

-- the same kind of user data: stream, payload protocol, and order; ordered chunks have their stream sequence number in common
abbrev pub same_stream : DataChunk → DataChunk → Bool
same_stream a b = a.stream == b.stream && (a.protocol == b.protocol
    && (same_flag a.unordered b.unordered && (a.unordered || a.sequence == b.sequence)))

-- the second goes on with the user message of the first
unfoldable pub goes_on : DataChunk → DataChunk → Bool
goes_on a b = (b.tsn == (a.tsn + 1) % 2 ^ 32) && ((not a.ends && not b.begins) && (same_flow a.flow b.flow && same_stream a b))
