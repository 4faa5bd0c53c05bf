-- What a pcapng file is, said by how it is put together (draft-ietf-opsawg-pcapng). Nothing here knows how a file is read.
use Rattle.std.specs.Prelude.{◌≡◌, ◌≢◌, ℕ, ◌+◌, ◌%◌, ◌^◌, ◌<◌, ◌≤◌, ◌==◌, min, nat_lt, if◌then◌else◌, List, [], ◌∷◌, ◌++◌}
use Rattle.std.specs.Prelude.{length, flat_map, All, slice_get, Option, Some, None}
use Rattle.capture_file.specs.Packets.{Captured, Packet, Bad, Told}
use Rattle.capture_file.specs.Spelled.{octets_2, octets_4, cut_off}
use Rattle.capture_file.specs.declared.order.Order.{Order}
use Rattle.capture_file.specs.declared.held.BadPacket.TheVariants.{NoInterface, BadLength, TooLong}

-- a block of a type: the type, the length of the block, its body, and its length once more
abbrev pub block_octets : Order → ℕ → List ℕ → List ℕ
block_octets o kind body = octets_4 o kind ++ octets_4 o (12 + length body) ++ body ++ octets_4 o (12 + length body)

-- ---- the blocks after the header of a section

-- an interface: its link type, two octets that are not read, its snap length, and its options
pub record Interface : Type 0 where
  pub link : ℕ
  pub reserved : List ℕ
  pub snap : ℕ
  pub options : List ℕ

-- What follows the lengths of a packet: its octets, padding, and options. Or fewer octets than its captured length, the number
-- here, which is no packet.
pub data Content : Type 0 where
  Padded : List ℕ → List ℕ → List ℕ → Content
  Lacking : ℕ → List ℕ → Content

-- An interface description; an enhanced packet, with its interface, eight octets of time, its original length and its content;
-- an old packet, with ten octets of drops and time; a simple packet, which names no interface; or a block of another type.
pub data Framed : Type 0 where
  Description : Interface → Framed
  Enhanced : ℕ → List ℕ → ℕ → Content → Framed
  Old : ℕ → List ℕ → ℕ → Content → Framed
  Simple : ℕ → Content → Framed
  Other : ℕ → List ℕ → Framed

abbrev pub captured_length : Content → ℕ
captured_length (Padded octets padding options) = length octets
captured_length (Lacking captured octets) = captured

abbrev pub content_octets : Content → List ℕ
content_octets (Padded octets padding options) = octets ++ padding ++ options
content_octets (Lacking captured octets) = octets

abbrev pub block_kind : Framed → ℕ
block_kind (Description i) = 1
block_kind (Old interface unread original content) = 2
block_kind (Simple original content) = 3
block_kind (Enhanced interface unread original content) = 6
block_kind (Other kind body) = kind

abbrev pub block_body : Order → Framed → List ℕ
block_body o (Description i) = octets_2 o i.link ++ i.reserved ++ octets_4 o i.snap ++ i.options
block_body o (Enhanced interface unread original content) =
    octets_4 o interface ++ unread ++ octets_4 o (captured_length content) ++ octets_4 o original ++ content_octets content
block_body o (Old interface unread original content) =
    octets_2 o interface ++ unread ++ octets_4 o (captured_length content) ++ octets_4 o original ++ content_octets content
block_body o (Simple original content) = octets_4 o original ++ content_octets content
block_body o (Other kind body) = body

abbrev pub framed_octets : Order → Framed → List ℕ
framed_octets o f = block_octets o (block_kind f) (block_body o f)

-- ---- what they may be after the descriptions of these interfaces

-- Fewer than four octets of padding make a multiple of four, and options have as many octets as such a multiple.
abbrev pub IsContent : Content → Type 0
IsContent (Padded octets padding options) =
    ((length octets + length padding) % 4 ≡ 0) × (length padding < 4) × (length options % 4 ≡ 0)
IsContent (Lacking captured octets) = (length octets < captured) × (length octets % 4 ≡ 0)

-- a simple packet was cut off at the snap length of the first interface, unless that is 0
abbrev pub simple_length : List Interface → ℕ → ℕ
simple_length [] original = original
simple_length (i ∷ more) original = if i.snap == 0 then original else min original i.snap

abbrev pub IsBlock : List Interface → Framed → Type 0
IsBlock seen (Description i) =
    (i.link < 2 ^ 16) × (length i.reserved ≡ 2) × (i.snap < 2 ^ 32) × (length i.options % 4 ≡ 0) × (length seen < 4096)
IsBlock seen (Enhanced interface unread original content) =
    (interface < 2 ^ 32) × (length unread ≡ 8) × (captured_length content < 2 ^ 32) × (original < 2 ^ 32) × IsContent content
IsBlock seen (Old interface unread original content) =
    (interface < 2 ^ 16) × (length unread ≡ 10) × (captured_length content < 2 ^ 32) × (original < 2 ^ 32) × IsContent content
IsBlock seen (Simple original content) = (original < 2 ^ 32) × (captured_length content ≡ simple_length seen original) × IsContent content
IsBlock seen (Other kind body) =
    (kind < 2 ^ 32) × (kind ≢ 0x0A0D0D0A) × (kind ≢ 1) × (kind ≢ 2) × (kind ≢ 3) × (kind ≢ 6) × (length body % 4 ≡ 0)

-- the interface that a block adds to those of its section
abbrev pub added : Framed → List Interface
added (Description i) = i ∷ []
added (Enhanced interface unread original content) = []
added (Old interface unread original content) = []
added (Simple original content) = []
added (Other kind body) = []

-- each block is one after those before it, and its length has four octets
abbrev pub AreBlocks : Order → List Interface → List Framed → Type 0
AreBlocks o seen [] = Unit {0}
AreBlocks o seen (f ∷ more) = IsBlock seen f × (12 + length (block_body o f) < 2 ^ 32) × AreBlocks o (seen ++ added f) more

-- ---- sections

-- a section: the order of its numbers, its minor version, eight octets with its length, which are not read, its options, and
-- the blocks after its header
pub record WholeSection : Type 0 where
  pub order : Order
  pub minor : ℕ
  pub extent : List ℕ
  pub options : List ℕ
  pub blocks : List Framed

-- the header has the magic number that shows the order, and major version 1
abbrev pub header_body : WholeSection → List ℕ
header_body t = octets_4 t.order 0x1A2B3C4D ++ octets_2 t.order 1 ++ octets_2 t.order t.minor ++ t.extent ++ t.options

abbrev pub section_octets : WholeSection → List ℕ
section_octets t = block_octets t.order 0x0A0D0D0A (header_body t) ++ flat_map (framed_octets t.order) t.blocks

pub record IsWholeSection (t : WholeSection) : Type 0 where
  pub minor : t.minor < 2 ^ 16
  pub extent : length t.extent ≡ 8
  pub options : length t.options % 4 ≡ 0
  pub number : 12 + length (header_body t) < 2 ^ 32
  pub blocks : AreBlocks t.order [] t.blocks

-- ---- packets

-- the packet of this interface, or why it is none
abbrev pub packet_of : Option Interface → ℕ → Content → Captured
packet_of None original content = Bad NoInterface
packet_of (Some i) original (Lacking captured octets) = Bad BadLength
packet_of (Some i) original (Padded octets padding options) =
    if nat_lt 262144 (length octets) then Bad TooLong else Packet i.link original octets

abbrev pub block_packets : List Interface → Framed → List Captured
block_packets seen (Description i) = []
block_packets seen (Enhanced interface unread original content) = packet_of (slice_get seen interface) original content ∷ []
block_packets seen (Old interface unread original content) = packet_of (slice_get seen interface) original content ∷ []
block_packets seen (Simple original content) = packet_of (slice_get seen 0) original content ∷ []
block_packets seen (Other kind body) = []

-- the packets of blocks after these interfaces
abbrev pub packets_after : List Interface → List Framed → List Captured
packets_after seen [] = []
packets_after seen (f ∷ more) = block_packets seen f ++ packets_after (seen ++ added f) more

abbrev pub section_packets : WholeSection → List Captured
section_packets t = packets_after [] t.blocks

-- ---- a file

-- whole sections with these packets, and what follows them
pub record AreSections (b : List ℕ) (packets : List Captured) (rest : List ℕ) : Type 0 where
  pub sections : List WholeSection
  pub parts : b ≡ flat_map section_octets sections ++ rest
  pub are_sections : All IsWholeSection sections
  pub packets_are : packets ≡ flat_map section_packets sections

-- what is left gives one packet at most, and none if nothing is left
abbrev pub IsLast : List ℕ → List Captured → Type 0
IsLast [] last = last ≡ []
IsLast (x ∷ rest) last = length last ≤ 1

-- These octets are whole sections, and perhaps the beginning of one block more. They give the packets of the sections, and the
-- packet of that block if it is there. If something is left, the file is cut off where that begins.
pub record IsPcapng (b : List ℕ) (given : Told) : Type 0 where
  pub packets : List Captured
  pub last : List Captured
  pub rest : List ℕ
  pub sections : AreSections b packets rest
  pub at_most_one : IsLast rest last
  pub given_is : given ≡ record { packets = packets ++ last; fault = cut_off b rest }
