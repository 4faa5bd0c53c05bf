-- What is in a packet, said by how its octets are put together.
use Rattle.std.specs.Prelude.{◌≡◌, ◌≤◌, ◌<◌, ℕ, ◌+◌, ◌*◌, ◌%◌, ◌^◌, List, [], ◌∷◌, ◌++◌, length}
use Rattle.std.specs.Int.{w16, w32, to_be_bytes, to_le_bytes}
use Rattle.packet_layers.specs.declared.flow.Flow.{Flow}
use Rattle.packet_layers.specs.Numbers.{bit}
use Rattle.packet_layers.specs.Values.{DataChunk, Transferred, Carried, Chunk, BadChunk, Signal, Bare, Unread, Other}

-- the common header of an SCTP packet (RFC 9260, section 3.1)
abbrev pub header_octets : Flow → List ℕ → List ℕ
header_octets flow checksum =
    to_be_bytes w16 flow.source ++ to_be_bytes w16 flow.destination ++ to_be_bytes w32 flow.tag ++ checksum

-- a DATA chunk with these flags, without padding (RFC 9260, section 3.3.1)
abbrev pub chunk_octets : ℕ → DataChunk → List ℕ
chunk_octets flags d =
    (0 ∷ flags ∷ []) ++ to_be_bytes w16 (16 + length d.payload) ++ to_be_bytes w32 d.tsn ++ to_be_bytes w16 d.stream
    ++ to_be_bytes w16 d.sequence ++ to_be_bytes w32 d.protocol ++ d.payload

-- the chunk and, before it, the common header of its packet, with a multiple of four octets between them
pub record HasChunk (b : List ℕ) (d : DataChunk) : Type 0 where
  pub before : List ℕ
  pub checksum : List ℕ
  pub between : List ℕ
  pub flags : ℕ
  pub after : List ℕ
  pub parts : b ≡ before ++ header_octets d.flow checksum ++ between ++ chunk_octets flags d ++ after
  pub four : length checksum ≡ 4
  pub aligned : length between % 4 ≡ 0
  pub unordered : d.unordered ≡ bit flags 2
  pub begins : d.begins ≡ bit flags 1
  pub ends : d.ends ≡ bit flags 0
  pub some : 1 ≤ length d.payload

-- service information octet, routing label and the user's octets (Q.704, sections 2.2 and 14.2)
pub record HasTransfer (b : List ℕ) (t : Transferred) : Type 0 where
  pub before : List ℕ
  pub information : ℕ
  pub selection : ℕ
  pub after : List ℕ
  pub parts : b ≡ before ++ (information ∷ to_le_bytes w32 (t.destination + 2 ^ 14 * t.origin + 2 ^ 28 * selection)) ++ t.payload ++ after
  pub service : t.service ≡ information % 16
  pub origin : t.origin < 2 ^ 14
  pub destination : t.destination < 2 ^ 14

-- Faults, and what is of another protocol, claim nothing of the octets.
abbrev pub IsIn : List ℕ → Carried → Type 0
IsIn b (Chunk i d) = HasChunk b d
IsIn b (BadChunk i fault) = Unit {0}
IsIn b (Signal t) = HasTransfer b t
IsIn b (Bare octets) = b ≡ octets
IsIn b (Unread fault) = Unit {0}
IsIn b Other = Unit {0}
