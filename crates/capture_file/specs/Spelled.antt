-- What a pcap file is, said by how it is put together (draft-ietf-opsawg-pcap). Nothing here knows how a file is read.
use Rattle.std.specs.Prelude.{◌≡◌, ◌⊎◌, ℕ, ◌+◌, ◌-◌, ◌*◌, ◌^◌, ◌<◌, ◌≤◌, List, [], ◌∷◌, ◌++◌, length, map, flat_map, All}
use Rattle.std.specs.Prelude.{get_or, Option, Some, None}
use Rattle.std.specs.Int.{w16, w32, to_be_bytes, to_le_bytes}
use Rattle.capture_file.specs.Numbers.{number_4}
use Rattle.capture_file.specs.Packets.{Captured, Packet}
use Rattle.capture_file.specs.declared.order.Order.{Order}
use Rattle.capture_file.specs.declared.order.Order.TheVariants.{Big, Little}
use Rattle.capture_file.specs.declared.file_fault.FileFault.{FileFault}
use Rattle.capture_file.specs.declared.file_fault.FileFault.TheVariants.{Cut, Damaged}

-- the two or four octets of a number
abbrev pub octets_2 : Order → ℕ → List ℕ
octets_2 Big n = to_be_bytes w16 n
octets_2 Little n = to_le_bytes w16 n

abbrev pub octets_4 : Order → ℕ → List ℕ
octets_4 Big n = to_be_bytes w32 n
octets_4 Little n = to_le_bytes w32 n

-- each of these is an octet
abbrev pub AreOctets : List ℕ → Type 0
AreOctets b = (i : ℕ) → get_or b i 0 < 256

-- ---- the heading

-- The magic number, which says whether times are in microseconds or in nanoseconds; twelve octets with the zone, the accuracy
-- of times and the snap length, which are not read; and the link type below the bits that say what follows each packet.
pub record Heading : Type 0 where
  pub order : Order
  pub magic : ℕ
  pub unread : List ℕ
  pub above : ℕ
  pub link : ℕ

pub record IsHeading (h : Heading) : Type 0 where
  pub times : (h.magic ≡ 0xA1B2C3D4) ⊎ (h.magic ≡ 0xA1B23C4D)
  pub twelve : length h.unread ≡ 12
  pub bits : h.above < 2 ^ 16
  pub number : h.link < 2 ^ 16

-- version 2.4
abbrev pub heading_octets : Heading → List ℕ
heading_octets h =
    octets_4 h.order h.magic ++ octets_2 h.order 2 ++ octets_2 h.order 4 ++ h.unread ++ octets_4 h.order (65536 * h.above + h.link)

-- ---- a record

-- when the packet was captured, in seconds and a fraction; its length at that time; and its captured octets
pub record Stamped : Type 0 where
  pub seconds : ℕ
  pub fraction : ℕ
  pub original : ℕ
  pub octets : List ℕ

pub record IsStamped (p : Stamped) : Type 0 where
  pub number : p.original < 2 ^ 32
  pub short : length p.octets ≤ 262144

abbrev pub record_octets : Order → Stamped → List ℕ
record_octets o p = octets_4 o p.seconds ++ octets_4 o p.fraction ++ octets_4 o (length p.octets) ++ octets_4 o p.original ++ p.octets

abbrev pub packet_of : ℕ → Stamped → Captured
packet_of link p = Packet link p.original p.octets

-- less than a whole record: fewer octets than the four numbers have, or than the captured length says
abbrev pub IsPartial : Order → List ℕ → Type 0
IsPartial o rest = (length rest < 16) ⊎ ((length rest < 16 + number_4 o rest 8) × (number_4 o rest 8 ≤ 262144))

-- ---- a file

-- a pcap file with these packets: its heading, whole records, and perhaps a part of one more
pub record IsPcap (b : List ℕ) (packets : List Captured) (rest : List ℕ) : Type 0 where
  pub heading : Heading
  pub records : List Stamped
  pub parts : b ≡ heading_octets heading ++ flat_map (record_octets heading.order) records ++ rest
  pub is_heading : IsHeading heading
  pub are_stamped : All IsStamped records
  pub packets_are : packets ≡ map (packet_of heading.link) records
  pub partial : IsPartial heading.order rest

-- a file that ends in a part of a record is cut off where this record begins
abbrev pub cut_off : List ℕ → List ℕ → Option FileFault
cut_off b [] = None
cut_off b (x ∷ xs) = Some (Cut (length b - length (x ∷ xs)))

-- nothing but its end keeps a file from being read
abbrev pub IsUndamaged : Option FileFault → Type 0
IsUndamaged None = Unit {0}
IsUndamaged (Some (Cut place)) = Unit {0}
IsUndamaged (Some (Damaged place why)) = ⊥
