-- A pcapng file that is put together gives its packets.
use Rattle.std.proofs.Common.{◌≡◌, ℕ, ◌+◌, ◌<◌, ◌≤◌, Bool, true, false, cond, ltb, List, [], ◌∷◌, ◌++◌, length}
use Rattle.std.proofs.Common.{Option, Some, None, refl, sym, ◌∙◌, ap, append_assoc, arith, length-append}
use Rattle.std.specs.Prelude.{flat_map}
use Rattle.std.specs.List.{AllByRecursion}
use Rattle.std.proofs.lemmas.Bool.{le-ltb}
use Rattle.std.proofs.lemmas.List.Elements.{recursion_from_All}
use Rattle.capture_file.specs.Numbers.{number_2}
use Rattle.capture_file.specs.Packets.{Captured, Told, with_front}
use Rattle.capture_file.specs.Units.{FileStart, Block, Step, Takes, Needs, Fails, unit, kind_of, order_of, section_by}
use Rattle.capture_file.specs.Told.{told, told_of}
use Rattle.capture_file.specs.Spelled.{octets_2, octets_4}
use Rattle.capture_file.specs.Sections.{Interface, Framed, block_octets, block_kind, block_body, framed_octets, added, AreBlocks}
use Rattle.capture_file.specs.Sections.{block_packets}
use Rattle.capture_file.specs.Sections.{packets_after, WholeSection, header_body, section_octets, IsWholeSection, section_packets}
use Rattle.capture_file.specs.Sections.{AreSections}
use Rattle.capture_file.specs.declared.order.Order.{Order}
use Rattle.capture_file.specs.declared.order.Order.TheVariants.{Big, Little}
use Rattle.capture_file.specs.declared.section.Section.{Section}
use Rattle.capture_file.specs.declared.file_kind.FileKind.TheVariants.{Pcapng}
use Rattle.capture_file.proofs.WordLemmas.{length-octets_2, length-octets_4}
use Rattle.capture_file.proofs.UnitLemmas.{unit-nothing}
use Rattle.capture_file.proofs.ToldLemmas.{told-takes, told-needs, told-fails, with_front-twice, with_front-only}
use Rattle.capture_file.proofs.BlockLemmas.{section_of, section-unit, section-takes}
use Rattle.capture_file.proofs.FramedLemmas.{laid, laid-is, length-laid, length-block, laid-size, passes-framed, framed-told}

-- ---- the header of a section

-- the body of a header, of which nothing is read after the major version
abbrev header : Order → List ℕ → List ℕ → List ℕ → List ℕ
header o minor extent options = octets_4 o 0x1A2B3C4D ++ octets_2 o 1 ++ minor ++ extent ++ options

header-kind : (o : Order) (body more : List ℕ) → kind_of (laid o 0x0A0D0D0A body more) ≡ Pcapng
header-kind Big body more = refl
header-kind Little body more = refl

header-order : (o : Order) (minor extent options more : List ℕ)
    → order_of (laid o 0x0A0D0D0A (header o minor extent options) more) ≡ Some o
header-order Big minor extent options more = refl
header-order Little minor extent options more = refl

header-major : (o : Order) (minor extent options more : List ℕ)
    → number_2 o (laid o 0x0A0D0D0A (header o minor extent options) more) 12 ≡ 1
header-major Big minor extent options more = refl
header-major Little minor extent options more = refl

length-header : (t : WholeSection) → IsWholeSection t → length (header_body t) ≡ 16 + length t.options
length-header t is =
    omega (
      arith,
      is.extent,
      length-append (octets_4 t.order 0x1A2B3C4D ++ octets_2 t.order 1 ++ octets_2 t.order t.minor ++ t.extent) t.options,
      length-append (octets_4 t.order 0x1A2B3C4D ++ octets_2 t.order 1 ++ octets_2 t.order t.minor) t.extent,
      length-append (octets_4 t.order 0x1A2B3C4D ++ octets_2 t.order 1) (octets_2 t.order t.minor),
      length-append (octets_4 t.order 0x1A2B3C4D) (octets_2 t.order 1),
      length-octets_4 t.order 0x1A2B3C4D,
      length-octets_2 t.order 1,
      length-octets_2 t.order t.minor,
    )

pub header-told : (whole : Bool) (before : Section) (place : ℕ) (t : WholeSection) (more : List ℕ) → IsWholeSection t
    → told_of whole (Block before) place (block_octets t.order 0x0A0D0D0A (header_body t) ++ more)
    ≡ told_of whole (Block (section_of t.order [])) (place + (12 + length (header_body t))) more
header-told whole before place t more is =
    let o : Order = t.order in
    let body : List ℕ = header_body t in
    let b : List ℕ = laid o 0x0A0D0D0A body more in
    let size : ℕ = 12 + length body in
    let lengths : length body ≡ 16 + length t.options = length-header t is in
    passes-framed whole before o [] place 0x0A0D0D0A body more [] 16 is.number (omega (arith, lengths))
    (section-unit before place b (omega (arith, lengths, length-laid o 0x0A0D0D0A body more)) (header-kind o body more)
    ∙ ap (λ (order : Option Order). section_by order place b) (header-order o (octets_2 o t.minor) t.extent t.options more)
    ∙ section-takes o place size b (laid-size o 0x0A0D0D0A body more is.number) (omega (arith, lengths, is.options))
    (omega (arith, lengths)) (omega (arith, lengths, length-laid o 0x0A0D0D0A body more))
    (header-major o (octets_2 o t.minor) t.extent t.options more))

-- ---- its blocks

-- the interfaces after blocks
pub seen_after : List Interface → List Framed → List Interface
seen_after seen [] = seen
seen_after seen (f ∷ more) = seen_after (seen ++ added f) more

length-framed : (o : Order) (f : Framed) → length (framed_octets o f) ≡ 12 + length (block_body o f)
length-framed o f = length-block o (block_kind f) (block_body o f)

blocks-told : (whole : Bool) (o : Order) (seen : List Interface) (place : ℕ) (blocks : List Framed) (more : List ℕ)
    → AreBlocks o seen blocks
    → told_of whole (Block (section_of o seen)) place (flat_map (framed_octets o) blocks ++ more)
    ≡ with_front (packets_after seen blocks) (told_of whole (Block (section_of o (seen_after seen blocks)))
    (place + length (flat_map (framed_octets o) blocks)) more)
unfolding seen_after
blocks-told whole o seen place [] more are =
    ap (λ (n : ℕ). told_of whole (Block (section_of o seen)) n more) (let same : place ≡ place + 0 = omega arith in same)
blocks-told whole o seen place (f ∷ blocks) more are =
    let rest : List ℕ = flat_map (framed_octets o) blocks in
    let after : ℕ = place + (12 + length (block_body o f)) in
    let last : Section = section_of o (seen_after (seen ++ added f) blocks) in
    let end : after + length rest ≡ place + length (framed_octets o f ++ rest) =
    omega (arith, length-append (framed_octets o f) rest, length-framed o f) in
    ap (told_of whole (Block (section_of o seen)) place) (append_assoc (framed_octets o f) rest more)
    ∙ framed-told whole o seen place f (rest ++ more) are.0 are.1
    ∙ ap (with_front (block_packets seen f)) (blocks-told whole o (seen ++ added f) after blocks more are.2)
    ∙ with_front-twice (block_packets seen f) (packets_after (seen ++ added f) blocks)
    (told_of whole (Block last) (after + length rest) more)
    ∙ ap (λ (n : ℕ). with_front (packets_after seen (f ∷ blocks)) (told_of whole (Block last) n more)) end

-- ---- sections

section-told : (whole : Bool) (before : Section) (place : ℕ) (t : WholeSection) (more : List ℕ) → IsWholeSection t
    → told_of whole (Block before) place (section_octets t ++ more)
    ≡ with_front (section_packets t) (told_of whole (Block (section_of t.order (seen_after [] t.blocks)))
    (place + length (section_octets t)) more)
section-told whole before place t more is =
    let head : List ℕ = block_octets t.order 0x0A0D0D0A (header_body t) in
    let blocks : List ℕ = flat_map (framed_octets t.order) t.blocks in
    let last : Section = section_of t.order (seen_after [] t.blocks) in
    let end : place + (12 + length (header_body t)) + length blocks ≡ place + length (head ++ blocks) =
    omega (arith, length-append head blocks, length-block t.order 0x0A0D0D0A (header_body t)) in
    ap (told_of whole (Block before) place) (append_assoc head blocks more)
    ∙ header-told whole before place t (blocks ++ more) is
    ∙ blocks-told whole t.order [] (place + (12 + length (header_body t))) t.blocks more is.blocks
    ∙ ap (λ (n : ℕ). with_front (section_packets t) (told_of whole (Block last) n more)) end

-- the section in which sections end
pub last_section : Section → List WholeSection → Section
last_section before [] = before
last_section before (t ∷ more) = last_section (section_of t.order (seen_after [] t.blocks)) more

pub sections-told : (whole : Bool) (before : Section) (place : ℕ) (sections : List WholeSection) (rest : List ℕ)
    → AllByRecursion IsWholeSection sections
    → told_of whole (Block before) place (flat_map section_octets sections ++ rest)
    ≡ with_front (flat_map section_packets sections) (told_of whole (Block (last_section before sections))
    (place + length (flat_map section_octets sections)) rest)
unfolding last_section
sections-told whole before place [] rest are =
    ap (λ (n : ℕ). told_of whole (Block before) n rest) (let same : place ≡ place + 0 = omega arith in same)
sections-told whole before place (t ∷ sections) rest are =
    let later : List ℕ = flat_map section_octets sections in
    let after : ℕ = place + length (section_octets t) in
    let next : Section = section_of t.order (seen_after [] t.blocks) in
    let last : Section = last_section next sections in
    let end : after + length later ≡ place + length (section_octets t ++ later) = omega (arith, length-append (section_octets t) later) in
    ap (told_of whole (Block before) place) (append_assoc (section_octets t) later rest)
    ∙ section-told whole before place t (later ++ rest) are.0
    ∙ ap (with_front (section_packets t)) (sections-told whole next after sections rest are.1)
    ∙ with_front-twice (section_packets t) (flat_map section_packets sections) (told_of whole (Block last) (after + length later) rest)
    ∙ ap (λ (n : ℕ). with_front (flat_map section_packets (t ∷ sections)) (told_of whole (Block last) n rest)) end

-- ---- the file

twice : (x : Bool) (step : Step) → cond x Needs step ≡ cond x Needs (cond x Needs step)
twice true step = refl
twice false step = refl

start-unit : (s : Section) (place : ℕ) (b : List ℕ) → kind_of b ≡ Pcapng → 4 ≤ length b
    → unit FileStart place b ≡ unit (Block s) place b
unfolding unit
start-unit s place b kind le = rw (le-ltb (length b) 4 le, kind) (twice (ltb (length b) 12) (section_by (order_of b) place b))

-- a file begins as any section does
pub start-told : (whole : Bool) (s : Section) (b : List ℕ) → kind_of b ≡ Pcapng → 4 ≤ length b
    → told whole b ≡ told_of whole (Block s) 0 b
start-told whole s [] kind le = absurd (omega (arith, le))
start-told whole s (x ∷ xs) kind le = by (unit FileStart 0 (x ∷ xs)) refl where
  same : unit FileStart 0 (x ∷ xs) ≡ unit (Block s) 0 (x ∷ xs)
  same = start-unit s 0 (x ∷ xs) kind le

  by : (step : Step) → unit FileStart 0 (x ∷ xs) ≡ step → told whole (x ∷ xs) ≡ told_of whole (Block s) 0 (x ∷ xs)
  by (Takes packets used after) e =
      told-takes whole FileStart 0 (x ∷ xs) packets used after e
      ∙ sym (told-takes whole (Block s) 0 (x ∷ xs) packets used after (sym same ∙ e))
  by Needs e = told-needs whole FileStart 0 (x ∷ xs) e ∙ sym (told-needs whole (Block s) 0 (x ∷ xs) (sym same ∙ e))
  by (Fails fault) e =
      told-fails whole FileStart 0 (x ∷ xs) fault e ∙ sym (told-fails whole (Block s) 0 (x ∷ xs) fault (sym same ∙ e))

-- the front of sections
sections-front : (sections : List WholeSection) (rest : List ℕ) → 0 < length (flat_map section_octets sections)
    → (kind_of (flat_map section_octets sections ++ rest) ≡ Pcapng) × (4 ≤ length (flat_map section_octets sections ++ rest))
sections-front [] rest some = absurd (omega (arith, some))
sections-front (t ∷ sections) rest some =
    let head : List ℕ = block_octets t.order 0x0A0D0D0A (header_body t) in
    let blocks : List ℕ = flat_map (framed_octets t.order) t.blocks in
    let later : List ℕ = flat_map section_octets sections in
    let parts : head ++ blocks ++ later ++ rest ≡ laid t.order 0x0A0D0D0A (header_body t) (blocks ++ (later ++ rest)) =
    append_assoc (head ++ blocks) later rest ∙ append_assoc head blocks (later ++ rest)
    ∙ laid-is t.order 0x0A0D0D0A (header_body t) (blocks ++ (later ++ rest)) in (
      ap kind_of parts ∙ header-kind t.order (header_body t) (blocks ++ (later ++ rest)),
      omega (arith, ap length parts, length-laid t.order 0x0A0D0D0A (header_body t) (blocks ++ (later ++ rest))),
    )

pub sections-given : (b : List ℕ) (packets : List Captured) → AreSections b packets [] → 0 < length b
    → told true b ≡ record { packets = packets; fault = None }
sections-given b packets are some =
    let all : List ℕ = flat_map section_octets are.sections in
    let s : Section = section_of Big [] in
    let last : Section = last_section s are.sections in
    let front = sections-front are.sections [] (omega (arith, some, ap length are.parts, length-append all [])) in
    ap (told true) are.parts
    ∙ start-told true s (all ++ []) front.0 front.1
    ∙ sections-told true s 0 are.sections [] (recursion_from_All IsWholeSection are.sections are.are_sections)
    ∙ ap (with_front (flat_map section_packets are.sections)) (told-needs true (Block last) (0 + length all) []
    (unit-nothing (Block last) (0 + length all)))
    ∙ with_front-only (flat_map section_packets are.sections) None
    ∙ ap (λ (ps : List Captured). told_with ps) (sym are.packets_are)
  where
    told_with : List Captured → Told
    told_with ps = record { packets = ps; fault = None }
