-- A unit that is whole stays so, whatever follows it.
use Rattle.std.proofs.Common.{◌≡◌, ◌<◌, ◌≤◌, ◌+◌, ◌-◌, ℕ, List, [], ◌++◌, length, Bool, true, false, cond, ltb, leb, Option, Some}
use Rattle.std.proofs.Common.{None}
use Rattle.std.proofs.Common.{refl, arith, length-append}
use Rattle.std.specs.Prelude.{◌%◌, ◌==◌, ◌&&◌, ◌||◌, not, slice_range}
use Rattle.std.proofs.lemmas.Bool.{ltb-false, lt-ltb, le-ltb, cond_both}
use Rattle.std.proofs.lemmas.List.{get_or_append_left, take-append-le, drop-append-le, length-drop}
use Rattle.capture_file.specs.Numbers.{number_2, number_4}
use Rattle.capture_file.specs.Units.{At, FileStart, Record, Block, Rest, Step, Takes, Needs, Fails, most, most_interfaces, unit, kind_of}
use Rattle.capture_file.specs.Units.{order_of}
use Rattle.capture_file.specs.Units.{heading_at, packet_at, record_at, section_in, section_by, section_at, least, packet_in, interface_in}
use Rattle.capture_file.specs.Units.{enhanced_in, simple_captured, simple_in, sized_in, kind_in, block_by, block_at, rest_at, start_by}
use Rattle.capture_file.specs.declared.order.Order.{Order}
use Rattle.capture_file.specs.declared.order.Order.TheVariants.{Big, Little}
use Rattle.capture_file.specs.declared.section.Section.{Section}
use Rattle.capture_file.specs.declared.file_kind.FileKind.{FileKind}
use Rattle.capture_file.specs.declared.file_kind.FileKind.TheVariants.{Pcap, Pcapng, Unknown}

-- ---- numbers and parts at the front of longer octets

pub number_2-append : (order : Order) (b more : List ℕ) (place : ℕ) → place + 2 ≤ length b
    → number_2 order (b ++ more) place ≡ number_2 order b place
number_2-append Big b more place le =
    rw (get_or_append_left b more 0 place (omega arith), get_or_append_left b more 0 (place + 1) (omega arith)) refl
number_2-append Little b more place le =
    rw (get_or_append_left b more 0 place (omega arith), get_or_append_left b more 0 (place + 1) (omega arith)) refl

pub number_4-append : (order : Order) (b more : List ℕ) (place : ℕ) → place + 4 ≤ length b
    → number_4 order (b ++ more) place ≡ number_4 order b place
number_4-append Big b more place le =
    rw (
      get_or_append_left b more 0 place (omega arith),
      get_or_append_left b more 0 (place + 1) (omega arith),
      get_or_append_left b more 0 (place + 2) (omega arith),
      get_or_append_left b more 0 (place + 3) (omega arith),
    ) refl
number_4-append Little b more place le =
    rw (
      get_or_append_left b more 0 place (omega arith),
      get_or_append_left b more 0 (place + 1) (omega arith),
      get_or_append_left b more 0 (place + 2) (omega arith),
      get_or_append_left b more 0 (place + 3) (omega arith),
    ) refl

pub slice_range-append : (b more : List ℕ) (start end : ℕ) → start ≤ end → end ≤ length b
    → slice_range (b ++ more) start end ≡ slice_range b start end
slice_range-append b more start end order le =
    rw (drop-append-le start b more (omega arith)) (take-append-le _ _ more (omega (arith, length-drop start b)))

-- ---- a step stays as it is

-- more octets may be needed first; otherwise the second step is the first one
abbrev pub StaysAs : Step → Step → Type 0
StaysAs (Takes packets used after) t = t ≡ Takes packets used after
StaysAs Needs t = Unit {0}
StaysAs (Fails fault) t = t ≡ Fails fault

pub stays : (s t : Step) → t ≡ s → StaysAs s t
stays (Takes packets used after) t e = e
stays Needs t e = tt
stays (Fails fault) t e = e

stays-by : (x y : Bool) (s t : Step) → (x ≡ false → y ≡ false) → (x ≡ false → StaysAs s t) → StaysAs (cond x Needs s) (cond y Needs t)
stays-by true y s t tests each = tt
stays-by false y s t tests each = rw (tests refl) (each refl)

-- a test of the number of octets
pub stays-enough : (n : ℕ) (b more : List ℕ) (s t : Step) → (n ≤ length b → StaysAs s t)
    → StaysAs (cond (ltb (length b) n) Needs s) (cond (ltb (length (b ++ more)) n) Needs t)
stays-enough n b more s t each =
    stays-by (ltb (length b) n) (ltb (length (b ++ more)) n) s t
    (λ h. le-ltb (length (b ++ more)) n (omega (arith, length-append b more, ltb-false (length b) n h)))
    (λ h. each (ltb-false (length b) n h))

-- any other test
pub stays-if : (x y : Bool) (s s' t t' : Step) → y ≡ x → StaysAs s t → StaysAs s' t' → StaysAs (cond x s s') (cond y t t')
stays-if true y s s' t t' same first second = rw same first
stays-if false y s s' t t' same first second = rw same second

-- ---- each unit

pub kind_of-append : (b more : List ℕ) → 4 ≤ length b → kind_of (b ++ more) ≡ kind_of b
kind_of-append b more le = rw (number_4-append Big b more 0 le, number_4-append Little b more 0 le) refl

stays-heading : (order : Order) (place : ℕ) (b more : List ℕ) → StaysAs (heading_at order place b) (heading_at order place (b ++ more))
stays-heading order place b more =
    stays-enough 24 b more _ _ (λ le. stays _ _
    (rw (
      number_2-append order b more 4 (omega arith),
      number_2-append order b more 6 (omega arith),
      number_4-append order b more 20
          (omega arith),
    ) refl))

stays-packet : (order : Order) (link captured : ℕ) (b more : List ℕ) → 16 ≤ length b
    → StaysAs (packet_at order link captured b) (packet_at order link captured (b ++ more))
stays-packet order link captured b more some =
    stays-enough (16 + captured) b more _ _ (λ le.
    rw (number_4-append order b more 12 (omega arith), slice_range-append b more 16 (16 + captured) (omega arith) le) refl)

stays-record : (order : Order) (link place : ℕ) (b more : List ℕ)
    → StaysAs (record_at order link place b) (record_at order link place (b ++ more))
stays-record order link place b more =
    stays-enough 16 b more _ _ (λ le. rw (number_4-append order b more 8 (omega arith))
    (stays-if (ltb most (number_4 order b 8)) (ltb most (number_4 order b 8)) _ _ _ _ refl refl
    (stays-packet order link (number_4 order b 8) b more le)))

order_of-append : (b more : List ℕ) → 12 ≤ length b → order_of (b ++ more) ≡ order_of b
order_of-append b more le = rw (number_4-append Big b more 8 le, number_4-append Little b more 8 le) refl

stays-section_in : (order : Order) (place : ℕ) (b more : List ℕ) → 12 ≤ length b
    → StaysAs (section_in order place b) (section_in order place (b ++ more))
stays-section_in order place b more some =
    rw (number_4-append order b more 4 (omega arith))
    (stays-if (not (number_4 order b 4 % 4 == 0) || ltb (number_4 order b 4) 28) (not (number_4 order b 4 % 4 == 0)
    || ltb (number_4 order b 4) 28)
    _ _ _ _ refl refl (stays-enough 16 b more _ _ (λ le. rw (number_2-append order b more 12 (omega arith)) (stays _ _ refl))))

stays-section_by : (order : Option Order) (place : ℕ) (b more : List ℕ) → 12 ≤ length b
    → StaysAs (section_by order place b) (section_by order place (b ++ more))
stays-section_by None place b more some = refl
stays-section_by (Some order) place b more some = stays-section_in order place b more some

stays-section : (place : ℕ) (b more : List ℕ) → StaysAs (section_at place b) (section_at place (b ++ more))
stays-section place b more =
    stays-enough 12 b more _ _ (λ le. rw (order_of-append b more le) (stays-section_by (order_of b) place b more le))

stays-packet_in : (s : Section) (place size start interface captured original : ℕ) (b more : List ℕ)
    → StaysAs (packet_in s place size start interface captured original b)
    (packet_in s place size start interface captured original (b ++ more))
stays-packet_in s place size start interface captured original b more =
    stays-if (leb (length s.links) interface) (leb (length s.links) interface) _ _ _ _ refl refl
    (stays-if (ltb (size - 4 - start) captured) (ltb (size - 4 - start) captured) _ _ _ _ refl refl
    (stays-if (ltb most captured) (ltb most captured) _ _ _ _ refl refl
    (stays-enough (start + captured) b more _ _ (λ le. rw (slice_range-append b more start (start + captured) (omega arith) le) refl))))

stays-interface : (s : Section) (place size : ℕ) (b more : List ℕ)
    → StaysAs (interface_in s place size b) (interface_in s place size (b ++ more))
stays-interface s place size b more =
    stays-enough 16 b more _ _ (λ le.
    rw (number_2-append s.order b more 8 (omega arith), number_4-append s.order b more 12 (omega arith)) (stays _ _ refl))

stays-enhanced : (s : Section) (place size interface : ℕ) (b more : List ℕ)
    → StaysAs (enhanced_in s place size interface b) (enhanced_in s place size interface (b ++ more))
stays-enhanced s place size interface b more =
    stays-enough 28 b more _ _ (λ le.
    rw (number_4-append s.order b more 20 (omega arith), number_4-append s.order b more 24 (omega arith))
    (stays-packet_in s place size 28 interface (number_4 s.order b 20) (number_4 s.order b 24) b more))

stays-simple : (s : Section) (place size : ℕ) (b more : List ℕ) → 12 ≤ length b
    → StaysAs (simple_in s place size b) (simple_in s place size (b ++ more))
stays-simple s place size b more some =
    rw (number_4-append s.order b more 8 some)
    (stays-packet_in s place size 12 0 (simple_captured s.snap (number_4 s.order b 8)) (number_4 s.order b 8) b more)

stays-sized : (s : Section) (place kind size : ℕ) (b more : List ℕ) → 12 ≤ length b
    → StaysAs (sized_in s place kind size b) (sized_in s place kind size (b ++ more))
stays-sized s place kind size b more some =
    stays-if (kind == 1) (kind == 1) _ _ _ _ refl (stays-interface s place size b more)
    (stays-if (kind == 6) (kind == 6) _ _ _ _ refl
    (rw (number_4-append s.order b more 8 some) (stays-enhanced s place size (number_4 s.order b 8) b more))
    (stays-if (kind == 2) (kind == 2) _ _ _ _ refl
    (rw (number_2-append s.order b more 8 (omega arith)) (stays-enhanced s place size (number_2 s.order b 8) b more))
    (stays-if (kind == 3) (kind == 3) _ _ _ _ refl (stays-simple s place size b more some) refl)))

stays-kind : (s : Section) (place kind size : ℕ) (b more : List ℕ) → 12 ≤ length b
    → StaysAs (kind_in s place kind size b) (kind_in s place kind size (b ++ more))
stays-kind s place kind size b more some =
    stays-if (not (size % 4 == 0) || ltb size (least kind)) (not (size % 4 == 0) || ltb size (least kind)) _ _ _ _ refl refl
    (stays-sized s place kind size b more some)

stays-block_by : (kind : FileKind) (s : Section) (place : ℕ) (b more : List ℕ) → 12 ≤ length b
    → StaysAs (block_by kind s place b) (block_by kind s place (b ++ more))
stays-block_by Pcapng s place b more some = stays-section place b more
stays-block_by (Pcap order) s place b more some =
    rw (number_4-append s.order b more 0 (omega arith), number_4-append s.order b more 4 (omega arith))
    (stays-kind s place (number_4 s.order b 0) (number_4 s.order b 4) b more some)
stays-block_by Unknown s place b more some =
    rw (number_4-append s.order b more 0 (omega arith), number_4-append s.order b more 4 (omega arith))
    (stays-kind s place (number_4 s.order b 0) (number_4 s.order b 4) b more some)

stays-block : (s : Section) (place : ℕ) (b more : List ℕ) → StaysAs (block_at s place b) (block_at s place (b ++ more))
stays-block s place b more =
    stays-enough 12 b more _ _ (λ le. rw (kind_of-append b more (omega arith)) (stays-block_by (kind_of b) s place b more le))

stays-rest : (s : Section) (left size start : ℕ) (b more : List ℕ)
    → StaysAs (rest_at s left size start b) (rest_at s left size start (b ++ more))
stays-rest s left size start b more =
    stays-enough (left + 4) b more _ _ (λ le. rw (number_4-append s.order b more left le) (stays _ _ refl))

stays-start : (kind : FileKind) (place : ℕ) (b more : List ℕ) → StaysAs (start_by kind place b) (start_by kind place (b ++ more))
stays-start (Pcap order) place b more = stays-heading order place b more
stays-start Pcapng place b more = stays-section place b more
stays-start Unknown place b more = refl

-- the unit at the front of longer octets
pub unit-stays : (at : At) (place : ℕ) (b more : List ℕ) → StaysAs (unit at place b) (unit at place (b ++ more))
unfolding unit
unit-stays FileStart place b more =
    stays-enough 4 b more _ _ (λ le. rw (kind_of-append b more le) (stays-start (kind_of b) place b more))
unit-stays (Record order link) place b more = stays-record order link place b more
unit-stays (Block s) place b more = stays-block s place b more
unit-stays (Rest s left size start) place b more = stays-rest s left size start b more

-- ---- the number of octets of a unit

-- a whole unit has an octet at least, and no more than are there
abbrev pub IsWithin : ℕ → Step → Type 0
IsWithin size (Takes packets used after) = (0 < used) × (used ≤ size)
IsWithin size Needs = Unit {0}
IsWithin size (Fails fault) = Unit {0}

within-enough : (n : ℕ) (size : ℕ) (s : Step) → (n ≤ size → IsWithin size s) → IsWithin size (cond (ltb size n) Needs s)
within-enough n size s each = cond_both (ltb size n) Needs s (IsWithin size) (λ h. tt) (λ h. each (ltb-false size n h))

within-if : (size : ℕ) (x : Bool) (s t : Step) → IsWithin size s → IsWithin size t → IsWithin size (cond x s t)
within-if size true s t first second = first
within-if size false s t first second = second

within-heading : (order : Order) (place : ℕ) (b : List ℕ) → IsWithin (length b) (heading_at order place b)
within-heading order place b =
    within-enough 24 (length b) _ (λ le. within-if (length b) ((number_2 order b 4 == 2) && (number_2 order b 6 == 4)) _ _
    (omega arith, le) tt)

within-record : (order : Order) (link place : ℕ) (b : List ℕ) → IsWithin (length b) (record_at order link place b)
within-record order link place b =
    within-enough 16 (length b) _ (λ some. within-if (length b) (ltb most (number_4 order b 8)) _ _ tt
    (within-enough (16 + number_4 order b 8) (length b) _ (λ le. (omega arith, le))))

within-section_in : (order : Order) (place : ℕ) (b : List ℕ) → IsWithin (length b) (section_in order place b)
within-section_in order place b =
    within-if (length b) (not (number_4 order b 4 % 4 == 0) || ltb (number_4 order b 4) 28) _ _ tt
    (within-enough 16 (length b) _ (λ le. within-if (length b) (not (number_2 order b 12 == 1)) _ _ tt (omega arith, le)))

within-section_by : (order : Option Order) (place : ℕ) (b : List ℕ) → IsWithin (length b) (section_by order place b)
within-section_by None place b = tt
within-section_by (Some order) place b = within-section_in order place b

within-section : (place : ℕ) (b : List ℕ) → IsWithin (length b) (section_at place b)
within-section place b = within-enough 12 (length b) _ (λ le. within-section_by (order_of b) place b)

within-packet_in : (s : Section) (place size start interface captured original : ℕ) (b : List ℕ) → 0 < start → start ≤ length b
    → IsWithin (length b) (packet_in s place size start interface captured original b)
within-packet_in s place size start interface captured original b some le =
    within-if (length b) (leb (length s.links) interface) _ _ (some, le)
    (within-if (length b) (ltb (size - 4 - start) captured) _ _ (some, le)
    (within-if (length b) (ltb most captured) _ _ (some, le)
    (within-enough (start + captured) (length b) _ (λ all. (omega arith, all)))))

within-interface : (s : Section) (place size : ℕ) (b : List ℕ) → IsWithin (length b) (interface_in s place size b)
within-interface s place size b =
    within-enough 16 (length b) _ (λ le. within-if (length b) (length s.links == most_interfaces) _ _ tt (omega arith, le))

within-enhanced : (s : Section) (place size interface : ℕ) (b : List ℕ) → IsWithin (length b) (enhanced_in s place size interface b)
within-enhanced s place size interface b =
    within-enough 28 (length b) _ (λ le.
    within-packet_in s place size 28 interface (number_4 s.order b 20) (number_4 s.order b 24) b (omega arith) le)

within-sized : (s : Section) (place kind size : ℕ) (b : List ℕ) → 12 ≤ length b → IsWithin (length b) (sized_in s place kind size b)
within-sized s place kind size b some =
    within-if (length b) (kind == 1) _ _ (within-interface s place size b)
    (within-if (length b) (kind == 6) _ _ (within-enhanced s place size (number_4 s.order b 8) b)
    (within-if (length b) (kind == 2) _ _ (within-enhanced s place size (number_2 s.order b 8) b)
    (within-if (length b) (kind == 3) _ _
    (within-packet_in s place size 12 0 (simple_captured s.snap (number_4 s.order b 8)) (number_4 s.order b 8) b (omega arith) some)
    (omega arith, omega arith))))

within-kind : (s : Section) (place kind size : ℕ) (b : List ℕ) → 12 ≤ length b → IsWithin (length b) (kind_in s place kind size b)
within-kind s place kind size b some =
    within-if (length b) (not (size % 4 == 0) || ltb size (least kind)) _ _ tt (within-sized s place kind size b some)

within-block_by : (kind : FileKind) (s : Section) (place : ℕ) (b : List ℕ) → 12 ≤ length b → IsWithin (length b) (block_by kind s place b)
within-block_by Pcapng s place b some = within-section place b
within-block_by (Pcap order) s place b some = within-kind s place (number_4 s.order b 0) (number_4 s.order b 4) b some
within-block_by Unknown s place b some = within-kind s place (number_4 s.order b 0) (number_4 s.order b 4) b some

within-rest : (s : Section) (left size start : ℕ) (b : List ℕ) → IsWithin (length b) (rest_at s left size start b)
within-rest s left size start b =
    within-enough (left + 4) (length b) _ (λ le. within-if (length b) (number_4 s.order b left == size) _ _ (omega arith, le) tt)

within-start : (kind : FileKind) (place : ℕ) (b : List ℕ) → IsWithin (length b) (start_by kind place b)
within-start (Pcap order) place b = within-heading order place b
within-start Pcapng place b = within-section place b
within-start Unknown place b = tt

pub unit-within : (at : At) (place : ℕ) (b : List ℕ) → IsWithin (length b) (unit at place b)
unfolding unit
unit-within FileStart place b = within-enough 4 (length b) _ (λ le. within-start (kind_of b) place b)
unit-within (Record order link) place b = within-record order link place b
unit-within (Block s) place b = within-enough 12 (length b) _ (λ le. within-block_by (kind_of b) s place b le)
unit-within (Rest s left size start) place b = within-rest s left size start b

-- no unit is empty
pub unit-nothing : (at : At) (place : ℕ) → unit at place [] ≡ Needs
unfolding unit
unit-nothing FileStart place = refl
unit-nothing (Record order link) place = refl
unit-nothing (Block s) place = refl
unit-nothing (Rest s left size start) place = rw (lt-ltb 0 (left + 4) (omega arith)) refl
