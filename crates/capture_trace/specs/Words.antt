-- The words of lines that are no message. Each begins with #, so a trace skips it.
use Rattle.std.specs.Prelude.{ℕ, List, [], ◌∷◌, ◌++◌, codes, decimal, Option, Some, None}
use Rattle.std.specs.List.{flat_map}
use Rattle.capture_file.specs.declared.file_fault.FileFault.{FileFault}
use Rattle.capture_file.specs.declared.file_fault.FileFault.TheVariants.{Cut, Damaged}
use Rattle.capture_file.specs.declared.file_fault.Damage.{Damage}
use Rattle.capture_file.specs.declared.file_fault.Damage.TheVariants as damages
use Rattle.capture_file.specs.declared.held.BadPacket.{BadPacket}
use Rattle.capture_file.specs.declared.held.BadPacket.TheVariants as bads
use Rattle.packet_layers.specs.declared.layer.Layer.{Layer}
use Rattle.packet_layers.specs.declared.layer.Layer.TheVariants as layers
use Rattle.packet_layers.specs.declared.fault.Fault.{Fault}
use Rattle.packet_layers.specs.declared.fault.Fault.TheVariants as faults
use Rattle.packet_layers.specs.declared.chunk_fault.ChunkFault.{ChunkFault}
use Rattle.packet_layers.specs.declared.chunk_fault.ChunkFault.TheVariants as chunks
use Rattle.capture_trace.specs.declared.counts.Counts.{Counts}
use Rattle.capture_trace.specs.declared.subject.Subject.{Subject}

-- ---- heads

abbrev pub on_packet : ℕ → Subject
on_packet packet = record { packet = packet; chunk = None }

abbrev pub on_chunk : ℕ → ℕ → Subject
on_chunk packet chunk = record { packet = packet; chunk = Some chunk }

unfoldable pub chunk_head : Option ℕ → List ℕ
chunk_head None = []
chunk_head (Some chunk) = codes "chunk " ++ (decimal chunk ++ codes " ")

-- a packet, or a chunk of it
unfoldable pub head : Subject → List ℕ
head s = codes "# packet " ++ (decimal s.packet ++ (codes " " ++ chunk_head s.chunk))

-- a line with a head and these words
unfoldable pub skipped : Subject → List ℕ → List ℕ
skipped s words = head s ++ words

-- ---- what is wrong with a packet, or with a chunk

abbrev pub layer_word : Layer → List ℕ
layer_word layers.Ethernet = codes "ethernet"
layer_word layers.Cooked = codes "cooked"
layer_word layers.Loopback = codes "loopback"
layer_word layers.Ip = codes "ip"
layer_word layers.Ipv6 = codes "ipv6"
layer_word layers.Sctp = codes "sctp"
layer_word layers.M2pa = codes "m2pa"
layer_word layers.Mtp2 = codes "mtp2"
layer_word layers.Mtp3 = codes "mtp3"
layer_word layers.Sccp = codes "sccp"

unfoldable pub fault_words : Fault → List ℕ
fault_words (faults.Link link) = codes "link " ++ decimal link
fault_words (faults.Short layer) = codes "short " ++ layer_word layer
fault_words (faults.Bad layer) = codes "bad " ++ layer_word layer
fault_words faults.Fragment = codes "fragment"

abbrev pub chunk_fault_word : ChunkFault → List ℕ
chunk_fault_word chunks.Short = codes "short"
chunk_fault_word chunks.Bad = codes "bad"
chunk_fault_word chunks.Interleaved = codes "interleaved"

abbrev pub bad_packet_word : BadPacket → List ℕ
bad_packet_word bads.NoInterface = codes "interface"
bad_packet_word bads.BadLength = codes "length"
bad_packet_word bads.TooLong = codes "long"

-- ---- what is wrong with a file

abbrev pub damage_words : Damage → List ℕ
damage_words damages.NoCapture = codes "no capture"
damage_words damages.Version = codes "version"
damage_words damages.OtherOrder = codes "order"
damage_words damages.Length = codes "length"
damage_words damages.End = codes "end"
damage_words damages.Interfaces = codes "interfaces"

-- the line of what is at a place of the file
unfoldable pub octet_line : ℕ → List ℕ → List ℕ
octet_line place words = codes "# octet " ++ (decimal place ++ (codes " " ++ words))

abbrev pub file_fault_line : FileFault → List ℕ
file_fault_line (Cut place) = octet_line place (codes "cut")
file_fault_line (Damaged place why) = octet_line place (damage_words why)

-- ---- the last line

-- a count after its name
unfoldable pub named_count : List ℕ → ℕ → List ℕ
named_count name count = name ++ decimal count

unfoldable pub end_line : Counts → List ℕ
end_line c =
    named_count (codes "# end packets ") c.packets ++ (named_count (codes " messages ") c.messages
    ++ (named_count (codes " left ") c.left ++ (named_count (codes " repeated ") c.repeated
    ++ (named_count (codes " others ") c.others ++ named_count (codes " faults ") c.faults))))

-- ---- texts of lines

-- a line with its line feed
abbrev pub ended : List ℕ → List ℕ
ended line = line ++ 10 ∷ []

-- the text of a line, if there is one
abbrev pub text_of : Option (List ℕ) → List ℕ
text_of None = []
text_of (Some line) = ended line

-- the text of lines
unfoldable pub text_of_lines : List (List ℕ) → List ℕ
text_of_lines lines = flat_map ended lines
