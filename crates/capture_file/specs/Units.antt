-- A capture file unit by unit. The units of a pcap file are its heading and its records (draft-ietf-opsawg-pcap). Those of a
-- pcapng file are each block up to the octets of its packet, and the rest of the block (draft-ietf-opsawg-pcapng).
use Rattle.std.specs.Prelude.{ℕ, ◌+◌, ◌-◌, ◌%◌, ◌&&◌, ◌||◌, ◌==◌, not, nat_lt, nat_le, min, Bool, true, false, if◌then◌else◌}
use Rattle.std.specs.Prelude.{List, [], ◌∷◌, ◌++◌, length, slice_range, slice_index_or, Option, Some, None}
use Rattle.capture_file.specs.Numbers.{number_2, number_4}
use Rattle.capture_file.specs.Packets.{Captured, Packet, Bad}
use Rattle.capture_file.specs.declared.order.Order.{Order}
use Rattle.capture_file.specs.declared.order.Order.TheVariants.{Big, Little}
use Rattle.capture_file.specs.declared.section.Section.{Section}
use Rattle.capture_file.specs.declared.held.BadPacket.TheVariants.{NoInterface, BadLength, TooLong}
use Rattle.capture_file.specs.declared.file_fault.FileFault.{FileFault}
use Rattle.capture_file.specs.declared.file_fault.FileFault.TheVariants.{Damaged}
use Rattle.capture_file.specs.declared.file_fault.Damage.TheVariants.{NoCapture, Version, OtherOrder, Length, End, Interfaces}
use Rattle.capture_file.specs.declared.file_kind.FileKind.{FileKind}
use Rattle.capture_file.specs.declared.file_kind.FileKind.TheVariants.{Pcap, Pcapng, Unknown}

-- What is read next: the beginning of the file; a record of a pcap file, with the order of its numbers and the link type; a
-- block of a pcapng file; or the rest of a block, up to its second length. That rest is so many octets and then this length,
-- and the block began at that place.
pub data At : Type 0 where
  FileStart : At
  Record : Order → ℕ → At
  Block : Section → At
  Rest : Section → ℕ → ℕ → ℕ → At

-- A unit is whole: the packets in it, the number of its octets, and what is read after it. Or more octets are needed to read
-- it, or it cannot be read.
pub data Step : Type 0 where
  Takes : List Captured → ℕ → At → Step
  Needs : Step
  Fails : FileFault → Step

-- the most octets of a packet
abbrev pub most : ℕ
most = 262144

-- the most interfaces of a section
abbrev pub most_interfaces : ℕ
most_interfaces = 4096

-- the kind of a file, by its first four octets
abbrev pub kind_of : List ℕ → FileKind
kind_of b =
    if (number_4 Big b 0 == 0xA1B2C3D4) || (number_4 Big b 0 == 0xA1B23C4D) then Pcap Big
    else if (number_4 Little b 0 == 0xA1B2C3D4) || (number_4 Little b 0 == 0xA1B23C4D) then Pcap Little
    else if number_4 Big b 0 == 0x0A0D0D0A then Pcapng
    else Unknown

-- ---- pcap

-- the heading of a pcap file
abbrev pub heading_at : Order → ℕ → List ℕ → Step
heading_at order place b =
    if nat_lt (length b) 24 then Needs
    else if (number_2 order b 4 == 2) && (number_2 order b 6 == 4) then Takes [] 24 (Record order (number_4 order b 20 % 65536))
    else Fails (Damaged place Version)

-- a record of which so many octets were captured
abbrev pub packet_at : Order → ℕ → ℕ → List ℕ → Step
packet_at order link captured b =
    if nat_lt (length b) (16 + captured) then Needs
    else Takes (Packet link (number_4 order b 12) (slice_range b 16 (16 + captured)) ∷ []) (16 + captured) (Record order link)

-- a record of a pcap file
abbrev pub record_at : Order → ℕ → ℕ → List ℕ → Step
record_at order link place b =
    if nat_lt (length b) 16 then Needs
    else if nat_lt most (number_4 order b 8) then Fails (Damaged place Length)
    else packet_at order link (number_4 order b 8) b

-- ---- pcapng

-- the order of the numbers of a section, by its magic number
abbrev pub order_of : List ℕ → Option Order
order_of b =
    if number_4 Big b 8 == 0x1A2B3C4D then Some Big else if number_4 Little b 8 == 0x1A2B3C4D then Some Little else None

-- a section of that order, which has no interface yet
abbrev pub empty_section : Order → Section
empty_section order = record { order = order; links = []; snap = 0 }

abbrev pub section_in : Order → ℕ → List ℕ → Step
section_in order place b =
    if not (number_4 order b 4 % 4 == 0) || nat_lt (number_4 order b 4) 28 then Fails (Damaged place Length)
    else if nat_lt (length b) 16 then Needs
    else if not (number_2 order b 12 == 1) then Fails (Damaged place Version)
    else Takes [] 16 (Rest (empty_section order) (number_4 order b 4 - 20) (number_4 order b 4) place)

abbrev pub section_by : Option Order → ℕ → List ℕ → Step
section_by None place b = Fails (Damaged place OtherOrder)
section_by (Some order) place b = section_in order place b

-- a section header block
abbrev pub section_at : ℕ → List ℕ → Step
section_at place b = if nat_lt (length b) 12 then Needs else section_by (order_of b) place b

-- the least length of a block of a kind: interface descriptions (1), old and enhanced packets (2, 6), simple packets (3)
abbrev pub least : ℕ → ℕ
least kind = if kind == 1 then 20 else if (kind == 2) || (kind == 6) then 32 else if kind == 3 then 16 else 12

-- so many octets of a block of that length were taken
abbrev pub rest_after : Section → ℕ → ℕ → List Captured → ℕ → Step
rest_after section place size packets used = Takes packets used (Rest section (size - 4 - used) size place)

-- the packet of a block, whose octets begin so many octets after the beginning of the block
abbrev pub packet_in : Section → ℕ → ℕ → ℕ → ℕ → ℕ → ℕ → List ℕ → Step
packet_in s place size start interface captured original b =
    if nat_le (length s.links) interface then rest_after s place size (Bad NoInterface ∷ []) start
    else if nat_lt (size - 4 - start) captured then rest_after s place size (Bad BadLength ∷ []) start
    else if nat_lt most captured then rest_after s place size (Bad TooLong ∷ []) start
    else if nat_lt (length b) (start + captured) then Needs
    else rest_after s place size (Packet (slice_index_or s.links interface 0) original (slice_range b start (start + captured)) ∷ [])
    (start + captured)

-- a section with one interface more; the snap length of its first interface counts
abbrev pub with_interface : Section → ℕ → ℕ → Section
with_interface s link snap = record s { links = s.links ++ link ∷ []; snap = if length s.links == 0 then snap else s.snap }

-- an interface description block
abbrev pub interface_in : Section → ℕ → ℕ → List ℕ → Step
interface_in s place size b =
    if nat_lt (length b) 16 then Needs
    else if length s.links == most_interfaces then Fails (Damaged place Interfaces)
    else rest_after (with_interface s (number_2 s.order b 8) (number_4 s.order b 12)) place size [] 16

-- an enhanced or old packet block, which says its interface
abbrev pub enhanced_in : Section → ℕ → ℕ → ℕ → List ℕ → Step
enhanced_in s place size interface b =
    if nat_lt (length b) 28 then Needs else packet_in s place size 28 interface (number_4 s.order b 20) (number_4 s.order b 24) b

-- a simple packet was cut off at the snap length, unless that is 0
abbrev pub simple_captured : ℕ → ℕ → ℕ
simple_captured snap original = if snap == 0 then original else min original snap

-- a simple packet block, whose interface is the first one
abbrev pub simple_in : Section → ℕ → ℕ → List ℕ → Step
simple_in s place size b = packet_in s place size 12 0 (simple_captured s.snap (number_4 s.order b 8)) (number_4 s.order b 8) b

-- a block of that kind and length; the octets of any other kind are passed over
abbrev pub sized_in : Section → ℕ → ℕ → ℕ → List ℕ → Step
sized_in s place kind size b =
    if kind == 1 then interface_in s place size b
    else if kind == 6 then enhanced_in s place size (number_4 s.order b 8) b
    else if kind == 2 then enhanced_in s place size (number_2 s.order b 8) b
    else if kind == 3 then simple_in s place size b
    else rest_after s place size [] 8

abbrev pub kind_in : Section → ℕ → ℕ → ℕ → List ℕ → Step
kind_in s place kind size b =
    if not (size % 4 == 0) || nat_lt size (least kind) then Fails (Damaged place Length) else sized_in s place kind size b

abbrev pub block_by : FileKind → Section → ℕ → List ℕ → Step
block_by Pcapng s place b = section_at place b
block_by (Pcap order) s place b = kind_in s place (number_4 s.order b 0) (number_4 s.order b 4) b
block_by Unknown s place b = kind_in s place (number_4 s.order b 0) (number_4 s.order b 4) b

-- a block of a pcapng file
abbrev pub block_at : Section → ℕ → List ℕ → Step
block_at s place b = if nat_lt (length b) 12 then Needs else block_by (kind_of b) s place b

-- what is left of a block, and then its length once more
abbrev pub rest_at : Section → ℕ → ℕ → ℕ → List ℕ → Step
rest_at s left size start b =
    if nat_lt (length b) (left + 4) then Needs
    else if number_4 s.order b left == size then Takes [] (left + 4) (Block s)
    else Fails (Damaged start End)

-- ---- both

abbrev pub start_by : FileKind → ℕ → List ℕ → Step
start_by (Pcap order) place b = heading_at order place b
start_by Pcapng place b = section_at place b
start_by Unknown place b = Fails (Damaged place NoCapture)

-- the unit at the front of these octets, which begin at that place of the file
unfoldable pub unit : At → ℕ → List ℕ → Step
unit FileStart place b = if nat_lt (length b) 4 then Needs else start_by (kind_of b) place b
unit (Record order link) place b = record_at order link place b
unit (Block s) place b = block_at s place b
unit (Rest s left size start) place b = rest_at s left size start b

-- whether the file may end here
abbrev pub is_end : At → List ℕ → Bool
is_end (Record order link) [] = true
is_end (Record order link) (x ∷ xs) = false
is_end (Block s) [] = true
is_end (Block s) (x ∷ xs) = false
is_end FileStart b = false
is_end (Rest s left size start) b = false

-- where that begins which is not whole
abbrev pub began : At → ℕ → ℕ
began (Rest s left size start) place = start
began FileStart place = place
began (Record order link) place = place
began (Block s) place = place
