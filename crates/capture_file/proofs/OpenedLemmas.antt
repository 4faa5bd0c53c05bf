-- What the front of a block of a pcapng file says, if it can be read.
use Rattle.std.proofs.Common.{◌≡◌, ℕ, ◌+◌, ◌-◌, ◌%◌, ◌≤◌, Bool, true, false, cond, ltb, leb, List, [], length, Option, Some, None}
use Rattle.std.proofs.Common.{refl, subst, arith}
use Rattle.std.specs.Prelude.{◌==◌, ◌||◌, not}
use Rattle.std.proofs.lemmas.Bool.{ltb-false, cond_both, eqb-true, eqb-false}
use Rattle.capture_file.specs.Numbers.{number_2, number_4}
use Rattle.capture_file.specs.Packets.{Captured}
use Rattle.capture_file.specs.Units.{At, Block, Rest, Step, Takes, Needs, Fails, most, most_interfaces, unit, order_of}
use Rattle.capture_file.specs.Units.{empty_section, section_in, section_by, least, rest_after, packet_in, interface_in, enhanced_in}
use Rattle.capture_file.specs.Units.{simple_captured, sized_in, kind_in}
use Rattle.capture_file.specs.Spelled.{IsUndamaged}
use Rattle.capture_file.specs.declared.order.Order.{Order}
use Rattle.capture_file.specs.declared.order.Order.TheVariants.{Big, Little}
use Rattle.capture_file.specs.declared.section.Section.{Section}
use Rattle.capture_file.specs.declared.file_fault.FileFault.{FileFault}

-- The front of a block of that length was taken, with at most one packet, and the rest of it is read next.
pub record Opens (o : Order) (place size : ℕ) (packets : List Captured) (used : ℕ) (after : At) : Type 0 where
  pub next : Section
  pub after_is : after ≡ Rest next (size - 4 - used) size place
  pub order_is : next.order ≡ o
  pub within : used + 4 ≤ size
  pub one : length packets ≤ 1

-- the front of a block was taken, or needs more octets, or is damaged
abbrev pub OpensOr : Order → ℕ → ℕ → Step → Type 0
OpensOr o place size (Takes packets used after) = Opens o place size packets used after
OpensOr o place size Needs = Unit {0}
OpensOr o place size (Fails fault) = IsUndamaged (Some fault) → ⊥

opens : (next : Section) (place size : ℕ) (packets : List Captured) (used : ℕ) → used + 4 ≤ size → length packets ≤ 1
    → OpensOr next.order place size (rest_after next place size packets used)
opens next place size packets used within one =
    record { next = next; after_is = refl; order_is = refl; within = within; one = one }

opens-packet : (s : Section) (place size start interface captured original : ℕ) (b : List ℕ) → start + 4 ≤ size
    → OpensOr s.order place size (packet_in s place size start interface captured original b)
opens-packet s place size start interface captured original b some =
    cond_both (leb (length s.links) interface) _ _ (OpensOr s.order place size) (λ h. opens s place size _ start some (omega arith))
    (λ h. cond_both (ltb (size - 4 - start) captured) _ _ (OpensOr s.order place size)
    (λ g. opens s place size _ start some (omega arith))
    (λ g. cond_both (ltb most captured) _ _ (OpensOr s.order place size) (λ f. opens s place size _ start some (omega arith))
    (λ f. cond_both (ltb (length b) (start + captured)) _ _ (OpensOr s.order place size) (λ e. tt)
    (λ e. opens s place size _ (start + captured) (omega (arith, some, ltb-false (size - 4 - start) captured g)) (omega arith)))))

opens-interface : (s : Section) (place size : ℕ) (b : List ℕ) → 20 ≤ size → OpensOr s.order place size (interface_in s place size b)
opens-interface s place size b some =
    cond_both (ltb (length b) 16) _ _ (OpensOr s.order place size) (λ h. tt)
    (λ h. cond_both (length s.links == most_interfaces) _ _ (OpensOr s.order place size) (λ g. λ sound. sound)
    (λ g. opens _ place size [] 16 (omega (arith, some)) (omega arith)))

opens-enhanced : (s : Section) (place size interface : ℕ) (b : List ℕ) → 32 ≤ size
    → OpensOr s.order place size (enhanced_in s place size interface b)
opens-enhanced s place size interface b some =
    cond_both (ltb (length b) 28) _ _ (OpensOr s.order place size) (λ h. tt)
    (λ h. opens-packet s place size 28 interface (number_4 s.order b 20) (number_4 s.order b 24) b (omega (arith, some)))

opens-sized : (s : Section) (place kind size : ℕ) (b : List ℕ) → least kind ≤ size
    → OpensOr s.order place size (sized_in s place kind size b)
opens-sized s place kind size b long =
    cond_both (kind == 1) _ _ (OpensOr s.order place size) (λ e. opens-interface s place size b (at 1 (eqb-true kind 1 e)))
    (λ one. cond_both (kind == 6) _ _ (OpensOr s.order place size)
    (λ e. opens-enhanced s place size (number_4 s.order b 8) b (at 6 (eqb-true kind 6 e)))
    (λ six. cond_both (kind == 2) _ _ (OpensOr s.order place size)
    (λ e. opens-enhanced s place size (number_2 s.order b 8) b (at 2 (eqb-true kind 2 e)))
    (λ two. cond_both (kind == 3) _ _ (OpensOr s.order place size)
    (λ e. opens-packet s place size 12 0 (simple_captured s.snap (number_4 s.order b 8)) (number_4 s.order b 8) b
    (omega (arith, at 3 (eqb-true kind 3 e))))
    (λ three. opens s place size [] 8
    (let shortest : least kind ≡ 12 = rw (one, two, six, three) refl in omega (arith, long, shortest)) (omega arith)))))
  where
    at : (n : ℕ) → kind ≡ n → least n ≤ size
    at n e = subst (λ (k : ℕ). least k ≤ size) e long

-- ---- the tests of a length

both_hold : (x y : Bool) → (not x || y) ≡ false → (x ≡ true) × (y ≡ false)
both_hold true true e = (refl, e)
both_hold true false e = (refl, refl)
both_hold false true e = absurd (cc)
both_hold false false e = absurd (cc)

pub fits : (size least : ℕ) → (not (size % 4 == 0) || ltb size least) ≡ false → (size % 4 ≡ 0) × (least ≤ size)
fits size least e =
    let h = both_hold (size % 4 == 0) (ltb size least) e in (eqb-true (size % 4) 0 h.0, ltb-false size least h.1)

pub opens-kind : (s : Section) (place kind size : ℕ) (b : List ℕ) → OpensOr s.order place size (kind_in s place kind size b)
opens-kind s place kind size b =
    cond_both (not (size % 4 == 0) || ltb size (least kind)) _ _ (OpensOr s.order place size) (λ e. λ sound. sound)
    (λ e. opens-sized s place kind size b (fits size (least kind) e).1)

passed-test : (x : Bool) (fault : FileFault) (step : Step) (packets : List Captured) (used : ℕ) (after : At)
    → cond x (Fails fault) step ≡ Takes packets used after → (x ≡ false) × (step ≡ Takes packets used after)
passed-test true fault step packets used after e = absurd (cc)
passed-test false fault step packets used after e = (refl, e)

passed-enough : (x : Bool) (step : Step) (packets : List Captured) (used : ℕ) (after : At)
    → cond x Needs step ≡ Takes packets used after → (x ≡ false) × (step ≡ Takes packets used after)
passed-enough true step packets used after e = absurd (cc)
passed-enough false step packets used after e = (refl, e)

-- what a block that was opened passed
pub kind-passed : (s : Section) (place kind size : ℕ) (b : List ℕ) (packets : List Captured) (used : ℕ) (after : At)
    → kind_in s place kind size b ≡ Takes packets used after
    → (size % 4 ≡ 0) × (least kind ≤ size) × (kind ≡ 1 → length s.links ≡ most_interfaces → ⊥)
kind-passed s place kind size b packets used after e =
    let first = passed-test (not (size % 4 == 0) || ltb size (least kind)) _ (sized_in s place kind size b) packets used after e in
    let fit = fits size (least kind) first.0 in (fit.0, fit.1, room first.1)
  where
    room : sized_in s place kind size b ≡ Takes packets used after → kind ≡ 1 → length s.links ≡ most_interfaces → ⊥
    room f one =
        let there : interface_in s place size b ≡ Takes packets used after =
        subst (λ (k : ℕ). sized_in s place k size b ≡ Takes packets used after) one f in
        let enough = passed-enough (ltb (length b) 16) _ packets used after there in
        eqb-false (length s.links) most_interfaces (passed-test (length s.links == most_interfaces) _ _ packets used after enough.1).0

pub block-passed : (s : Section) (place : ℕ) (b : List ℕ) (packets : List Captured) (used : ℕ) (after : At)
    → unit (Block s) place b ≡ Takes packets used after → 12 ≤ length b
unfolding unit
block-passed s place b packets used after e = ltb-false (length b) 12 (passed-enough (ltb (length b) 12) _ packets used after e).0

-- ---- the header of a section

-- a header that was opened
pub record IsHeader (o : Order) (place : ℕ) (b : List ℕ) (packets : List Captured) (used : ℕ) (after : At) : Type 0 where
  pub four : number_4 o b 4 % 4 ≡ 0
  pub long : 28 ≤ number_4 o b 4
  pub major : number_2 o b 12 ≡ 1
  pub step : Takes [] 16 (Rest (empty_section o) (number_4 o b 4 - 20) (number_4 o b 4) place) ≡ Takes packets used after

pub header-passed : (o : Order) (place : ℕ) (b : List ℕ) (packets : List Captured) (used : ℕ) (after : At)
    → section_in o place b ≡ Takes packets used after → IsHeader o place b packets used after
header-passed o place b packets used after e =
    let size : ℕ = number_4 o b 4 in
    let first = passed-test (not (size % 4 == 0) || ltb size 28) _ _ packets used after e in
    let fit = fits size 28 first.0 in
    let enough = passed-enough (ltb (length b) 16) _ packets used after first.1 in
    let version = passed-test (not (number_2 o b 12 == 1)) _ _ packets used after enough.1 in
    record { four = fit.0; long = fit.1; major = eqb-true (number_2 o b 12) 1 (is_one (number_2 o b 12 == 1) version.0); step = version.1 }
  where
    is_one : (x : Bool) → not x ≡ false → x ≡ true
    is_one true e = refl
    is_one false e = absurd (cc)

pub order-is : (o : Order) (b : List ℕ) → order_of b ≡ Some o → number_4 o b 8 ≡ 0x1A2B3C4D
order-is o b = by (number_4 Big b 8 == 0x1A2B3C4D) (number_4 Little b 8 == 0x1A2B3C4D) refl refl where
  by : (big little : Bool) → (number_4 Big b 8 == 0x1A2B3C4D) ≡ big → (number_4 Little b 8 == 0x1A2B3C4D) ≡ little
      → cond big (Some Big) (cond little (Some Little) None) ≡ Some o → number_4 o b 8 ≡ 0x1A2B3C4D
  by true little e f k =
      let same : Big ≡ o = cc in
      subst (λ (order : Order). number_4 order b 8 ≡ 0x1A2B3C4D) same (eqb-true (number_4 Big b 8) 0x1A2B3C4D e)
  by false true e f k =
      let same : Little ≡ o = cc in
      subst (λ (order : Order). number_4 order b 8 ≡ 0x1A2B3C4D) same (eqb-true (number_4 Little b 8) 0x1A2B3C4D f)
  by false false e f k = absurd (cc)

-- no header is cut off
abbrev pub Undamaged-or : Step → Type 0
Undamaged-or (Takes packets used after) = Unit {0}
Undamaged-or Needs = Unit {0}
Undamaged-or (Fails fault) = IsUndamaged (Some fault) → ⊥

pub fails-header : (order : Option Order) (place : ℕ) (b : List ℕ) → Undamaged-or (section_by order place b)
fails-header None place b = λ sound. sound
fails-header (Some o) place b =
    cond_both (not (number_4 o b 4 % 4 == 0) || ltb (number_4 o b 4) 28) _ _ Undamaged-or (λ e. λ sound. sound)
    (λ e. cond_both (ltb (length b) 16) _ _ Undamaged-or (λ f. tt)
    (λ f. cond_both (not (number_2 o b 12 == 1)) _ _ Undamaged-or (λ g. λ sound. sound) (λ g. tt)))
