-- What is left of a pcapng file, block by block.
use Rattle.std.proofs.Common.{◌≡◌, ℕ, ◌+◌, ◌-◌, ◌^◌, ◌<◌, ◌≤◌, true, false, List, [], ◌∷◌, ◌++◌, length}
use Rattle.std.proofs.Common.{drop, Option, Some, None, refl, sym, ◌∙◌, ap, subst, append_assoc, arith}
use Rattle.std.proofs.Common.{length-append}
use Rattle.std.specs.Prelude.{◌==◌, flat_map, All}
use Rattle.std.proofs.lemmas.List.{append-nil}
use Rattle.std.proofs.lemmas.List.Elements.{All-nil, All-cons}
use Rattle.capture_file.specs.Numbers.{number_4}
use Rattle.capture_file.specs.Packets.{Captured, Told, with_front}
use Rattle.capture_file.specs.Units.{Block, Rest, Takes, Needs, unit}
use Rattle.capture_file.specs.Told.{told_of}
use Rattle.capture_file.specs.Spelled.{IsUndamaged}
use Rattle.capture_file.specs.Sections.{Interface, Framed, Description, Enhanced, Old, Simple, Other, block_octets, block_kind, block_body}
use Rattle.capture_file.specs.Sections.{framed_octets, IsBlock, added, AreBlocks, block_packets, packets_after, WholeSection, header_body}
use Rattle.capture_file.specs.Sections.{section_octets, IsWholeSection, section_packets, IsLast}
use Rattle.capture_file.specs.declared.order.Order.{Order}
use Rattle.capture_file.specs.declared.section.Section.{Section}
use Rattle.capture_file.specs.declared.file_fault.FileFault.{FileFault}
use Rattle.capture_file.specs.declared.file_fault.FileFault.TheVariants.{Cut, Damaged}
use Rattle.capture_file.specs.declared.file_fault.Damage.TheVariants.{End}
use Rattle.capture_file.proofs.UnitLemmas.{unit-within}
use Rattle.capture_file.proofs.ToldLemmas.{told-takes, told-needs, told-fails}
use Rattle.capture_file.proofs.StepLemmas.{rest-few, rest-differs}
use Rattle.capture_file.proofs.BlockLemmas.{section_of}
use Rattle.capture_file.proofs.FramedLemmas.{length-block}

-- ---- what is left of a file, in a section with these interfaces

-- the file is cut off at a place, if something of it is left
abbrev pub cut_at : ℕ → List ℕ → Option FileFault
cut_at place [] = None
cut_at place (x ∷ rest) = Some (Cut place)

-- blocks of this section, whole sections after it, and perhaps the beginning of one block more
pub record Continues (o : Order) (seen : List Interface) (place : ℕ) (b : List ℕ) (given : Told) : Type 0 where
  pub blocks : List Framed
  pub sections : List WholeSection
  pub rest : List ℕ
  pub last : List Captured
  pub parts : b ≡ flat_map (framed_octets o) blocks ++ (flat_map section_octets sections ++ rest)
  pub are_blocks : AreBlocks o seen blocks
  pub are_sections : All IsWholeSection sections
  pub at_most_one : IsLast rest last
  pub given_is : given ≡ record {
    packets = packets_after seen blocks ++ (flat_map section_packets sections ++ last);
    fault = cut_at (place + (length b - length rest)) rest;
  }

abbrev pub told_with : List Captured → Option FileFault → Told
told_with packets fault = record { packets = packets; fault = fault }

-- nothing more is whole
stops : (o : Order) (seen : List Interface) (place : ℕ) (b : List ℕ) (last : List Captured) (given : Told) → IsLast b last
    → given ≡ told_with last (cut_at place b) → Continues o seen place b given
stops o seen place b last given one e = record {
  blocks = [];
  sections = [];
  rest = b;
  last = last;
  parts = refl;
  are_blocks = tt;
  are_sections = All-nil IsWholeSection;
  at_most_one = one;
  given_is = e ∙ ap (λ (n : ℕ). told_with last (cut_at n b)) (let same : place ≡ place + (length b - length b) = omega arith in same);
}

abbrev pub Given : Order → List Interface → ℕ → List ℕ → Told
Given o seen place b = told_of true (Block (section_of o seen)) place b

pub ends-here : (o : Order) (seen : List Interface) (place : ℕ) (b : List ℕ) → unit (Block (section_of o seen)) place b ≡ Needs
    → Continues o seen place b (Given o seen place b)
ends-here o seen place [] e = stops o seen place [] [] _ refl (told-needs true (Block (section_of o seen)) place [] e)
ends-here o seen place (x ∷ xs) e =
    stops o seen place (x ∷ xs) [] _ (omega arith) (told-needs true (Block (section_of o seen)) place (x ∷ xs) e)

-- the last block is not whole
pub ends-in : (o : Order) (seen : List Interface) (place : ℕ) (b : List ℕ) (packets : List Captured) (used left size : ℕ) (next : Section)
    → unit (Block (section_of o seen)) place b ≡ Takes packets used (Rest next left size place) → length packets ≤ 1
    → length (drop used b) < left + 4 → Continues o seen place b (Given o seen place b)
ends-in o seen place [] packets used left size next e one few =
    let within : (0 < used) × (used ≤ 0) = rw e at (unit-within (Block (section_of o seen)) place []) in
    absurd (omega (arith, within.0, within.1))
ends-in o seen place (x ∷ xs) packets used left size next e one few =
    stops o seen place (x ∷ xs) packets _ one
    (told-takes true (Block (section_of o seen)) place (x ∷ xs) packets used (Rest next left size place) e
    ∙ ap (with_front packets) (told-needs true (Rest next left size place) (place + used) (drop used (x ∷ xs))
    (rest-few next left size place (place + used) (drop used (x ∷ xs)) few))
    ∙ ap (λ (ps : List Captured). told_with ps (Some (Cut place))) (append-nil packets))

-- the second length of a block differs
pub ends-badly : (o : Order) (seen : List Interface) (place : ℕ) (b : List ℕ) (packets : List Captured) (used left size : ℕ)
    (next : Section)
    → unit (Block (section_of o seen)) place b ≡ Takes packets used (Rest next left size place) → left + 4 ≤ length (drop used b)
    → (number_4 next.order (drop used b) left == size) ≡ false → IsUndamaged (Given o seen place b).fault → ⊥
ends-badly o seen place b packets used left size next e enough other sound =
    subst (λ (t : Told). IsUndamaged t.fault)
    (told-takes true (Block (section_of o seen)) place b packets used (Rest next left size place) e
    ∙ ap (with_front packets) (told-fails true (Rest next left size place) (place + used) (drop used b) (Damaged place End)
    (rest-differs next left size place (place + used) (drop used b) enough other))) sound

-- ---- a whole block

pub added-few : (seen : List Interface) (f : Framed) → IsBlock seen f → length seen ≤ 4096 → length (seen ++ added f) ≤ 4096
added-few seen (Description i) is few = omega (arith, is.4, length-append seen (i ∷ []))
added-few seen (Enhanced interface unread original content) is few = omega (arith, few, length-append seen [])
added-few seen (Old interface unread original content) is few = omega (arith, few, length-append seen [])
added-few seen (Simple original content) is few = omega (arith, few, length-append seen [])
added-few seen (Other kind body) is few = omega (arith, few, length-append seen [])

-- one block more, before what is left after it
pub one-more : (o : Order) (seen : List Interface) (place : ℕ) (f : Framed) (more : List ℕ) (given after : Told) → IsBlock seen f
    → 12 + length (block_body o f) < 2 ^ 32 → Continues o (seen ++ added f) (place + (12 + length (block_body o f))) more after
    → given ≡ with_front (block_packets seen f) after → Continues o seen place (framed_octets o f ++ more) given
one-more o seen place f more given after is short c e =
    let all : List ℕ = flat_map (framed_octets o) c.blocks in
    let later : List ℕ = flat_map section_octets c.sections in
    let size : ℕ = 12 + length (block_body o f) in
    let long : length (framed_octets o f) ≡ size = length-block o (block_kind f) (block_body o f) in
    let places : place + size + (length more - length c.rest) ≡ place + (length (framed_octets o f ++ more) - length c.rest) =
    omega (
      arith,
      long,
      length-append (framed_octets o f) more,
      ap length c.parts,
      length-append all (later ++ c.rest),
      length-append later c.rest,
    ) in
    record {
      blocks = f ∷ c.blocks;
      sections = c.sections;
      rest = c.rest;
      last = c.last;
      parts = ap (λ (l : List ℕ). framed_octets o f ++ l) c.parts ∙ sym (append_assoc (framed_octets o f) all (later ++ c.rest));
      are_blocks = (is, short, c.are_blocks);
      are_sections = c.are_sections;
      at_most_one = c.at_most_one;
      given_is = e ∙ ap (with_front (block_packets seen f)) c.given_is
          ∙ ap (λ (ps : List Captured). told_with ps (cut_at (place + size + (length more - length c.rest)) c.rest))
          (sym (append_assoc (block_packets seen f) (packets_after (seen ++ added f) c.blocks)
          (flat_map section_packets c.sections ++ c.last)))
          ∙ ap (λ (n : ℕ). told_with (packets_after seen (f ∷ c.blocks) ++ (flat_map section_packets c.sections ++ c.last))
          (cut_at n c.rest)) places;
    }

-- a section without blocks
abbrev pub headed : Order → ℕ → List ℕ → List ℕ → List Framed → WholeSection
headed o minor extent options blocks =
    record { order = o; minor = minor; extent = extent; options = options; blocks = blocks }

-- the header of one section more, before its blocks and what is left after them
pub new-section : (o : Order) (seen : List Interface) (place : ℕ) (t : WholeSection) (more : List ℕ) (given : Told)
    → IsWholeSection t → t.blocks ≡ []
    → Continues t.order [] (place + (12 + length (header_body t))) more given
    → Continues o seen place (block_octets t.order 0x0A0D0D0A (header_body t) ++ more) given
new-section o seen place t more given is none c =
    let head : List ℕ = block_octets t.order 0x0A0D0D0A (header_body t) in
    let whole : WholeSection = headed t.order t.minor t.extent t.options c.blocks in
    let all : List ℕ = flat_map (framed_octets t.order) c.blocks in
    let later : List ℕ = flat_map section_octets c.sections in
    let size : ℕ = 12 + length (header_body t) in
    let long : length head ≡ size = length-block t.order 0x0A0D0D0A (header_body t) in
    let places : place + size + (length more - length c.rest) ≡ place + (length (head ++ more) - length c.rest) =
    omega (arith, long, length-append head more, ap length c.parts, length-append all (later ++ c.rest), length-append later c.rest) in
    record {
      blocks = [];
      sections = whole ∷ c.sections;
      rest = c.rest;
      last = c.last;
      parts = ap (λ (l : List ℕ). head ++ l) c.parts ∙ sym (append_assoc head all (later ++ c.rest))
          ∙ sym (append_assoc (head ++ all) later c.rest);
      are_blocks = tt;
      are_sections = All-cons IsWholeSection whole c.sections
          (record { minor = is.minor; extent = is.extent; options = is.options; number = is.number; blocks = c.are_blocks })
          c.are_sections;
      at_most_one = c.at_most_one;
      given_is = c.given_is
          ∙ ap (λ (ps : List Captured). told_with ps (cut_at (place + size + (length more - length c.rest)) c.rest))
          (sym (append_assoc (packets_after [] c.blocks) (flat_map section_packets c.sections) c.last))
          ∙ ap (λ (n : ℕ). told_with (flat_map section_packets (whole ∷ c.sections) ++ c.last) (cut_at n c.rest)) places;
    }
