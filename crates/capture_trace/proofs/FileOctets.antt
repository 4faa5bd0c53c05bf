-- The packets of a file of octets have octets.
use Rattle.std.proofs.Common.{ℕ, zero, suc, ◌+◌, ◌-◌, Bool, ltb, leb, List, [], ◌∷◌, length, drop, Option, Some, None}
use Rattle.std.specs.Prelude.{◌%◌, ◌==◌, ◌&&◌, ◌||◌, not, slice_range, slice_index_or}
use Rattle.std.specs.List.{All}
use Rattle.std.proofs.lemmas.Bool.{cond_both}
use Rattle.std.proofs.lemmas.List.Elements.{All-nil, All-cons, All-append}
use Rattle.hex.specs.Hex.{IsBytes}
use Rattle.capture_file.specs.Numbers.{number_2, number_4}
use Rattle.capture_file.specs.Packets.{Captured, Packet}
use Rattle.capture_file.specs.Units.{At, FileStart, Record, Block, Rest, Step, Takes, Needs, Fails, most, most_interfaces, unit, kind_of}
use Rattle.capture_file.specs.Units.{order_of, heading_at, record_at, section_by, least, packet_in, section_at}
use Rattle.capture_file.specs.Units.{enhanced_in, simple_captured, kind_in, block_by, start_by}
use Rattle.capture_file.specs.Told.{told, told_by, told_from}
use Rattle.capture_file.specs.declared.order.Order.{Order}
use Rattle.capture_file.specs.declared.section.Section.{Section}
use Rattle.capture_file.specs.declared.file_kind.FileKind.{FileKind}
use Rattle.capture_file.specs.declared.file_kind.FileKind.TheVariants.{Pcap, Pcapng, Unknown}
use Rattle.capture_file.proofs.WordLemmas.{AreOctets-drop, AreOctets-take}
use Rattle.capture_trace.specs.Forms.{HasOctets}

-- the packets of a unit have octets
abbrev Gives : Step → Type 0
Gives (Takes packets used after) = All HasOctets packets
Gives Needs = Unit {0}
Gives (Fails fault) = Unit {0}

none : All HasOctets []
none = All-nil HasOctets

one : (p : Captured) → HasOctets p → All HasOctets (p ∷ [])
one p h = All-cons HasOctets p [] h none

part : (b : List ℕ) (start end : ℕ) → IsBytes b → IsBytes (slice_range b start end)
part b start end each = AreOctets-take (end - start) (drop start b) (AreOctets-drop start b each)

heading-gives : (order : Order) (place : ℕ) (b : List ℕ) → Gives (heading_at order place b)
heading-gives order place b =
    cond_both (ltb (length b) 24) _ _ Gives (λ _. tt)
    (λ _. cond_both ((number_2 order b 4 == 2) && (number_2 order b 6 == 4)) _ _ Gives (λ _. none) (λ _. tt))

record-gives : (order : Order) (link place : ℕ) (b : List ℕ) → IsBytes b → Gives (record_at order link place b)
record-gives order link place b each =
    cond_both (ltb (length b) 16) _ _ Gives (λ _. tt)
    (λ _. cond_both (ltb most (number_4 order b 8)) _ _ Gives (λ _. tt)
    (λ _. cond_both (ltb (length b) (16 + number_4 order b 8)) _ _ Gives (λ _. tt)
    (λ _. one (Packet link (number_4 order b 12) (slice_range b 16 (16 + number_4 order b 8))) (part b 16 (16 + number_4 order b 8) each))))

section-gives : (order : Option Order) (place : ℕ) (b : List ℕ) → Gives (section_by order place b)
section-gives None place b = tt
section-gives (Some o) place b =
    cond_both (not (number_4 o b 4 % 4 == 0) || ltb (number_4 o b 4) 28) _ _ Gives (λ _. tt)
    (λ _. cond_both (ltb (length b) 16) _ _ Gives (λ _. tt)
    (λ _. cond_both (not (number_2 o b 12 == 1)) _ _ Gives (λ _. tt) (λ _. none)))

packet-gives : (s : Section) (place size start interface captured original : ℕ) (b : List ℕ) → IsBytes b
    → Gives (packet_in s place size start interface captured original b)
packet-gives s place size start interface captured original b each =
    cond_both (leb (length s.links) interface) _ _ Gives (λ _. one _ tt)
    (λ _. cond_both (ltb (size - 4 - start) captured) _ _ Gives (λ _. one _ tt)
    (λ _. cond_both (ltb most captured) _ _ Gives (λ _. one _ tt)
    (λ _. cond_both (ltb (length b) (start + captured)) _ _ Gives (λ _. tt)
    (λ _. one (Packet (slice_index_or s.links interface 0) original (slice_range b start (start + captured)))
    (part b start (start + captured) each)))))

enhanced-gives : (s : Section) (place size interface : ℕ) (b : List ℕ) → IsBytes b → Gives (enhanced_in s place size interface b)
enhanced-gives s place size interface b each =
    cond_both (ltb (length b) 28) _ _ Gives (λ _. tt)
    (λ _. packet-gives s place size 28 interface (number_4 s.order b 20) (number_4 s.order b 24) b each)

kind-gives : (s : Section) (place kind size : ℕ) (b : List ℕ) → IsBytes b → Gives (kind_in s place kind size b)
kind-gives s place kind size b each =
    cond_both (not (size % 4 == 0) || ltb size (least kind)) _ _ Gives (λ _. tt)
    (λ _. cond_both (kind == 1) _ _ Gives
    (λ _. cond_both (ltb (length b) 16) _ _ Gives (λ _. tt)
    (λ _. cond_both (length s.links == most_interfaces) _ _ Gives (λ _. tt) (λ _. none)))
    (λ _. cond_both (kind == 6) _ _ Gives (λ _. enhanced-gives s place size (number_4 s.order b 8) b each)
    (λ _. cond_both (kind == 2) _ _ Gives (λ _. enhanced-gives s place size (number_2 s.order b 8) b each)
    (λ _. cond_both (kind == 3) _ _ Gives
    (λ _. packet-gives s place size 12 0 (simple_captured s.snap (number_4 s.order b 8)) (number_4 s.order b 8) b each)
    (λ _. none)))))

at-section : (place : ℕ) (b : List ℕ) → Gives (section_at place b)
at-section place b = cond_both (ltb (length b) 12) _ _ Gives (λ _. tt) (λ _. section-gives (order_of b) place b)

block-gives : (kind : FileKind) (s : Section) (place : ℕ) (b : List ℕ) → IsBytes b → Gives (block_by kind s place b)
block-gives Pcapng s place b each = at-section place b
block-gives (Pcap order) s place b each = kind-gives s place (number_4 s.order b 0) (number_4 s.order b 4) b each
block-gives Unknown s place b each = kind-gives s place (number_4 s.order b 0) (number_4 s.order b 4) b each

start-gives : (kind : FileKind) (place : ℕ) (b : List ℕ) → Gives (start_by kind place b)
start-gives (Pcap order) place b = heading-gives order place b
start-gives Pcapng place b = at-section place b
start-gives Unknown place b = tt

unit-gives : (at : At) (place : ℕ) (b : List ℕ) → IsBytes b → Gives (unit at place b)
unfolding unit
unit-gives FileStart place b each = cond_both (ltb (length b) 4) _ _ Gives (λ _. tt) (λ _. start-gives (kind_of b) place b)
unit-gives (Record order link) place b each = record-gives order link place b each
unit-gives (Block s) place b each = cond_both (ltb (length b) 12) _ _ Gives (λ _. tt) (λ _. block-gives (kind_of b) s place b each)
unit-gives (Rest s left size start) place b each =
    cond_both (ltb (length b) (left + 4)) _ _ Gives (λ _. tt)
    (λ _. cond_both (number_4 s.order b left == size) _ _ Gives (λ _. none) (λ _. tt))

abbrev AllTold : ℕ → Bool → Type 0
AllTold units whole = (at : At) (place : ℕ) (b : List ℕ) → IsBytes b → All HasOctets (told_from units whole at place b).packets

told-by : (units : ℕ) (whole : Bool) → AllTold units whole → (at : At) (place : ℕ) (b : List ℕ) → IsBytes b → (step : Step) → Gives step
    → All HasOctets (told_by (told_from units whole) whole at place b step).packets
told-by units whole later at place b each (Takes packets used after) h =
    All-append HasOctets packets (told_from units whole after (place + used) (drop used b)).packets h
    (later after (place + used) (drop used b) (AreOctets-drop used b each))
told-by units whole later at place b each Needs h = none
told-by units whole later at place b each (Fails fault) h = none

all-told : (units : ℕ) (whole : Bool) → AllTold units whole
unfolding told_from
all-told zero whole at place b each = none
all-told (suc units) whole at place b each =
    told-by units whole (all-told units whole) at place b each (unit at place b) (unit-gives at place b each)

pub packets-have-octets : (whole : Bool) (b : List ℕ) → IsBytes b → All HasOctets (told whole b).packets
packets-have-octets whole b each = all-told (length b) whole FileStart 0 b each
