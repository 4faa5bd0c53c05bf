-- What is read of a pcapng file without damage is what it was put together of.
use Rattle.std.proofs.Common.{◌≡◌, ℕ, zero, suc, ◌+◌, ◌-◌, ◌%◌, ◌^◌, ◌<◌, ◌≤◌, true, false, List, [], ◌∷◌, ◌++◌, length}
use Rattle.std.proofs.Common.{take, drop, Option, Some, None, refl, sym, ◌∙◌, ap, subst, ⊎_elim, append_assoc, arith}
use Rattle.std.specs.Prelude.{◌==◌, ◌||◌, flat_map}
use Rattle.std.proofs.lemmas.Bool.{lt-ltb, cases_lt, cases_Bool, cond_both, eqb-true}
use Rattle.std.proofs.lemmas.List.{length-drop, length-take-le, length-map, drop-drop, take-append-drop}
use Rattle.capture_file.specs.Numbers.{number_2, number_4}
use Rattle.capture_file.specs.Packets.{Captured, Told, with_front}
use Rattle.capture_file.specs.Units.{At, Block, Rest, Step, Takes, Needs, Fails, unit, kind_of, order_of, least, kind_in, section_by}
use Rattle.capture_file.specs.Units.{empty_section}
use Rattle.capture_file.specs.Told.{told}
use Rattle.capture_file.specs.Spelled.{octets_2, octets_4, AreOctets, IsUndamaged, cut_off}
use Rattle.capture_file.specs.Sections.{Interface, Framed, Description, Enhanced, Old, Simple, Other, block_octets, block_kind, block_body}
use Rattle.capture_file.specs.Sections.{framed_octets, IsBlock, added, AreBlocks, block_packets, packets_after, WholeSection, header_body}
use Rattle.capture_file.specs.Sections.{section_octets, IsWholeSection, section_packets, IsPcapng}
use Rattle.capture_file.specs.declared.order.Order.{Order}
use Rattle.capture_file.specs.declared.order.Order.TheVariants.{Big, Little}
use Rattle.capture_file.specs.declared.section.Section.{Section}
use Rattle.capture_file.specs.declared.file_kind.FileKind.{FileKind}
use Rattle.capture_file.specs.declared.file_kind.FileKind.TheVariants.{Pcap, Pcapng, Unknown}
use Rattle.capture_file.proofs.WordLemmas.{AreOctets-drop, spelled_2, spelled_4, number_2-small, number_4-small, number_2-part}
use Rattle.capture_file.proofs.WordLemmas.{number_4-part}
use Rattle.capture_file.proofs.ToldLemmas.{told-fails}
use Rattle.capture_file.proofs.StepLemmas.{number_4-drop}
use Rattle.capture_file.proofs.BlockLemmas.{section_of, link_of, block-unit, section-unit}
use Rattle.capture_file.proofs.FramedLemmas.{laid, laid-is, not-section, section-front, framed-told}
use Rattle.capture_file.proofs.SectionLemmas.{header-told, start-told}
use Rattle.capture_file.proofs.PartsLemmas.{body_at, length-body, AreOctets-body, block-spelled, five-joined, IsFramed, framed-of}
use Rattle.capture_file.proofs.OpenedLemmas.{Opens, OpensOr, opens-kind, kind-passed, IsHeader, header-passed, order-is}
use Rattle.capture_file.proofs.OpenedLemmas.{Undamaged-or, fails-header}
use Rattle.capture_file.proofs.LeftLemmas.{cut_at, Continues, told_with, Given, ends-here, ends-in, ends-badly, added-few, one-more}
use Rattle.capture_file.proofs.LeftLemmas.{headed, new-section}

-- ---- the blocks that octets begin with

section-kind : (o : Order) (b : List ℕ) → AreOctets b → 4 ≤ length b → number_4 o b 0 ≡ 0x0A0D0D0A → kind_of b ≡ Pcapng
section-kind o b each le e =
    ap kind_of (sym (spelled_4 o b 0 each le)) ∙ ap (λ (n : ℕ). kind_of (octets_4 o n ++ drop 4 b)) e ∙ by o
  where
    by : (order : Order) → kind_of (octets_4 order 0x0A0D0D0A ++ drop 4 b) ≡ Pcapng
    by Big = refl
    by Little = refl

section-number : (o : Order) (b : List ℕ) → AreOctets b → 4 ≤ length b → kind_of b ≡ Pcapng → number_4 o b 0 ≡ 0x0A0D0D0A
section-number Big b each le e = section-front b e
section-number Little b each le e =
    ap (λ (l : List ℕ). number_4 Little l 0) (sym (spelled_4 Big b 0 each le))
    ∙ ap (λ (n : ℕ). number_4 Little (octets_4 Big n ++ drop 4 b) 0) (section-front b e)

least-12 : (kind : ℕ) → 12 ≤ least kind
least-12 kind =
    cond_both (kind == 1) _ _ (λ (n : ℕ). 12 ≤ n) (λ e. omega arith)
    (λ e. cond_both ((kind == 2) || (kind == 6)) _ _ (λ (n : ℕ). 12 ≤ n) (λ f. omega arith)
    (λ f. cond_both (kind == 3) _ _ (λ (n : ℕ). 12 ≤ n) (λ g. omega arith) (λ g. omega arith)))

-- what is left of shorter octets
abbrev Later : ℕ → Type 0
Later n = (o : Order) (seen : List Interface) (place : ℕ) (b : List ℕ) → length b ≤ n → length seen ≤ 4096 → AreOctets b
    → IsUndamaged (Given o seen place b).fault → Continues o seen place b (Given o seen place b)

whole-block : (n : ℕ) → Later n → (o : Order) (seen : List Interface) (place : ℕ) (b : List ℕ) → length b ≤ suc n → length seen ≤ 4096
    → AreOctets b → IsUndamaged (Given o seen place b).fault → 12 ≤ length b → (kind_of b ≡ Pcapng → ⊥) → number_4 o b 4 % 4 ≡ 0
    → least (number_4 o b 0) ≤ number_4 o b 4 → (number_4 o b 0 ≡ 1 → length seen ≡ 4096 → ⊥) → number_4 o b 4 ≤ length b
    → number_4 o b (number_4 o b 4 - 4) ≡ number_4 o b 4 → Continues o seen place b (Given o seen place b)
whole-block n later o seen place b few room each sound some other four long space le end =
    let size : ℕ = number_4 o b 4 in
    let kind : ℕ = number_4 o b 0 in
    let body : List ℕ = body_at size b in
    let twelve : 12 ≤ size = omega (arith, long, least-12 kind) in
    let lengths : length body ≡ size - 12 = length-body size b twelve le in
    let f : IsFramed o seen kind body =
    framed-of o seen kind body (AreOctets-body size b each) (omega (arith, lengths, four, twelve)) (number_4-small o b 0 each)
    (λ e. other (section-kind o b each (omega (arith, some)) e)) (omega (arith, lengths, twelve, long))
    (λ e. fewer (length seen) room (space e)) in
    let body_size : ℕ = 12 + length (block_body o f.framed) in
    let same : body_size ≡ size = omega (arith, ap length f.body_is, lengths, twelve) in
    let short : body_size < 2 ^ 32 = omega (arith, same, number_4-small o b 4 each) in
    let parts : framed_octets o f.framed ++ drop size b ≡ b =
    ap (λ (k : ℕ). block_octets o k (block_body o f.framed) ++ drop size b) f.kind_is
    ∙ ap (λ (l : List ℕ). block_octets o kind l ++ drop size b) f.body_is
    ∙ block-spelled o size b each twelve le refl end in
    let after : Told = Given o (seen ++ added f.framed) (place + body_size) (drop size b) in
    let e : Given o seen place b ≡ with_front (block_packets seen f.framed) after =
    ap (Given o seen place) (sym parts) ∙ framed-told true o seen place f.framed (drop size b) f.is_block short in
    let c : Continues o (seen ++ added f.framed) (place + body_size) (drop size b) after =
    later o (seen ++ added f.framed) (place + body_size) (drop size b) (omega (arith, few, twelve, length-drop size b))
    (added-few seen f.framed f.is_block room) (AreOctets-drop size b each) (subst (λ (t : Told). IsUndamaged t.fault) e sound) in
    subst (λ (l : List ℕ). Continues o seen place l (Given o seen place b)) parts
    (one-more o seen place f.framed (drop size b) (Given o seen place b) after f.is_block short c e)
  where
    fewer : (m : ℕ) → m ≤ 4096 → (m ≡ 4096 → ⊥) → m < 4096
    fewer m le differs = ⊎_elim (λ (less : m < 4096). less) (λ (more : 4096 ≤ m). absurd (differs (omega (arith, le, more))))
        (cases_lt m 4096)

whole-header : (n : ℕ) → Later n → (o : Order) (seen : List Interface) (place : ℕ) (b : List ℕ) → length b ≤ suc n → AreOctets b
    → IsUndamaged (Given o seen place b).fault → 12 ≤ length b → kind_of b ≡ Pcapng → (h : Order) → order_of b ≡ Some h
    → number_4 h b 4 % 4 ≡ 0 → 28 ≤ number_4 h b 4 → number_2 h b 12 ≡ 1 → number_4 h b 4 ≤ length b
    → number_4 h b (number_4 h b 4 - 4) ≡ number_4 h b 4 → Continues o seen place b (Given o seen place b)
whole-header n later o seen place b few each sound some kind h order four long one le end =
    let size : ℕ = number_4 h b 4 in
    let body : List ℕ = body_at size b in
    let lengths : length body ≡ size - 12 = length-body size b (omega (arith, long)) le in
    let octets : AreOctets body = AreOctets-body size b each in
    let magic : number_4 h body 0 ≡ 0x1A2B3C4D = number_4-part h b 8 (size - 12) 0 (omega (arith, long)) ∙ order-is h b order in
    let major : number_2 h body 4 ≡ 1 = number_2-part h b 8 (size - 12) 4 (omega (arith, long)) ∙ one in
    let extent : List ℕ = take 8 (drop 8 body) in
    let t : WholeSection = headed h (number_2 h body 6) extent (drop 16 body) [] in
    let body_is : header_body t ≡ body =
    five-joined (octets_4 h 0x1A2B3C4D) (octets_2 h 1) (octets_2 h (number_2 h body 6)) extent (drop 16 body)
    ∙ ap (λ (l : List ℕ). octets_4 h 0x1A2B3C4D ++ (octets_2 h 1 ++ (octets_2 h (number_2 h body 6) ++ l)))
    (ap (λ (l : List ℕ). extent ++ l) (sym (drop-drop 8 8 body)) ∙ take-append-drop 8 (drop 8 body))
    ∙ ap (λ (l : List ℕ). octets_4 h 0x1A2B3C4D ++ (octets_2 h 1 ++ l)) (spelled_2 h body 6 octets (omega (arith, lengths, long)))
    ∙ ap (λ (k : ℕ). octets_4 h 0x1A2B3C4D ++ (octets_2 h k ++ drop 6 body)) (sym major)
    ∙ ap (λ (l : List ℕ). octets_4 h 0x1A2B3C4D ++ l) (spelled_2 h body 4 octets (omega (arith, lengths, long)))
    ∙ ap (λ (k : ℕ). octets_4 h k ++ drop 4 body) (sym magic)
    ∙ spelled_4 h body 0 octets (omega (arith, lengths, long)) in
    let body_size : ℕ = 12 + length (header_body t) in
    let same : body_size ≡ size = omega (arith, ap length body_is, lengths, long) in
    let is : IsWholeSection t = record {
      minor = number_2-small h body 6 octets;
      extent = length-take-le 8 (drop 8 body) (omega (arith, lengths, long, length-drop 8 body));
      options = omega (arith, lengths, long, four, length-drop 16 body);
      number = omega (arith, same, number_4-small h b 4 each);
      blocks = tt;
    } in
    let parts : block_octets h 0x0A0D0D0A (header_body t) ++ drop size b ≡ b =
    ap (λ (l : List ℕ). block_octets h 0x0A0D0D0A l ++ drop size b) body_is
    ∙ ap (λ (k : ℕ). block_octets h k body ++ drop size b) (sym (section-number h b each (omega (arith, some)) kind))
    ∙ block-spelled h size b each (omega (arith, long)) le refl end in
    let after : Told = Given h [] (place + body_size) (drop size b) in
    let e : Given o seen place b ≡ after =
    ap (Given o seen place) (sym parts) ∙ header-told true (section_of o seen) place t (drop size b) is in
    let c : Continues h [] (place + body_size) (drop size b) after =
    later h [] (place + body_size) (drop size b) (omega (arith, few, long, length-drop size b)) (omega arith) (AreOctets-drop size b each)
    (subst (λ (t : Told). IsUndamaged t.fault) e sound) in
    subst (λ (l : List ℕ). Continues o seen place l (Given o seen place b)) parts
    (new-section o seen place t (drop size b) (Given o seen place b) is refl
    (subst (λ (t : Told). Continues h [] (place + body_size) (drop size b) t) (sym e) c))

-- the front of a block was taken
after-front : (o : Order) (seen : List Interface) (place : ℕ) (b : List ℕ) (packets : List Captured) (used left size : ℕ) (next : Section)
    → unit (Block (section_of o seen)) place b ≡ Takes packets used (Rest next left size place) → length packets ≤ 1 → used + 4 ≤ size
    → left ≡ size - 4 - used → IsUndamaged (Given o seen place b).fault
    → (size ≤ length b → number_4 next.order b (size - 4) ≡ size → Continues o seen place b (Given o seen place b))
    → Continues o seen place b (Given o seen place b)
after-front o seen place b packets used left size next e one within is sound whole =
    ⊎_elim (λ (few : length (drop used b) < left + 4). ends-in o seen place b packets used left size next e one few)
    (λ (enough : left + 4 ≤ length (drop used b)).
    ⊎_elim
    (λ (same : (number_4 next.order (drop used b) left == size) ≡ true).
    whole (omega (arith, enough, is, within, length-drop used b))
    (sym (number_4-drop next.order b used (size - 4) (omega (arith, within)))
    ∙ ap (number_4 next.order (drop used b)) (sym is)
    ∙ eqb-true (number_4 next.order (drop used b) left) size same))
    (λ (other : (number_4 next.order (drop used b) left == size) ≡ false).
    absurd (ends-badly o seen place b packets used left size next e enough other sound))
    (cases_Bool (number_4 next.order (drop used b) left == size)))
    (cases_lt (length (drop used b)) (left + 4))

-- the front of a block that begins no section
at-block : (n : ℕ) → Later n → (o : Order) (seen : List Interface) (place : ℕ) (b : List ℕ) → length b ≤ suc n → length seen ≤ 4096
    → AreOctets b → IsUndamaged (Given o seen place b).fault → 12 ≤ length b → (kind_of b ≡ Pcapng → ⊥)
    → (step : Step) → unit (Block (section_of o seen)) place b ≡ step → Continues o seen place b (Given o seen place b)
at-block n later o seen place b few room each sound some other Needs e = ends-here o seen place b e
at-block n later o seen place b few room each sound some other (Fails fault) e =
    let opened : IsUndamaged (Some fault) → ⊥ =
    subst (OpensOr o place (number_4 o b 4)) (sym (block-unit (section_of o seen) place b some other) ∙ e)
    (opens-kind (section_of o seen) place (number_4 o b 0) (number_4 o b 4) b) in
    absurd (opened (subst (λ (t : Told). IsUndamaged t.fault) (told-fails true (Block (section_of o seen)) place b fault e) sound))
at-block n later o seen place b few room each sound some other (Takes packets used after) e =
    let s : Section = section_of o seen in
    let size : ℕ = number_4 o b 4 in
    let kind : ℕ = number_4 o b 0 in
    let read : kind_in s place kind size b ≡ Takes packets used after = sym (block-unit s place b some other) ∙ e in
    let opened : Opens o place size packets used after = subst (OpensOr o place size) read (opens-kind s place kind size b) in
    let passed = kind-passed s place kind size b packets used after read in
    after-front o seen place b packets used (size - 4 - used) size opened.next
    (e ∙ ap (λ (at : At). Takes packets used at) opened.after_is) opened.one opened.within refl sound
    (λ le end. whole-block n later o seen place b few room each sound some other passed.0 passed.1
    (λ one all. passed.2 one (length-map seen link_of ∙ all)) le
    (ap (λ (order : Order). number_4 order b (size - 4)) (sym opened.order_is) ∙ end))

-- the front of a header
at-header : (n : ℕ) → Later n → (o : Order) (seen : List Interface) (place : ℕ) (b : List ℕ) → length b ≤ suc n
    → AreOctets b → IsUndamaged (Given o seen place b).fault → 12 ≤ length b → kind_of b ≡ Pcapng
    → (step : Step) → unit (Block (section_of o seen)) place b ≡ step → Continues o seen place b (Given o seen place b)
at-header n later o seen place b few each sound some kind Needs e = ends-here o seen place b e
at-header n later o seen place b few each sound some kind (Fails fault) e =
    let opened : IsUndamaged (Some fault) → ⊥ =
    subst Undamaged-or (sym (section-unit (section_of o seen) place b some kind) ∙ e) (fails-header (order_of b) place b) in
    absurd (opened (subst (λ (t : Told). IsUndamaged t.fault) (told-fails true (Block (section_of o seen)) place b fault e) sound))
at-header n later o seen place b few each sound some kind (Takes packets used after) e =
    by (order_of b) refl (sym (section-unit (section_of o seen) place b some kind) ∙ e)
  where
    by : (order : Option Order) → order_of b ≡ order → section_by order place b ≡ Takes packets used after
        → Continues o seen place b (Given o seen place b)
    by None is read = absurd (cc)
    by (Some h) is read =
        let passed : IsHeader h place b packets used after = header-passed h place b packets used after read in
        let size : ℕ = number_4 h b 4 in
        after-front o seen place b [] 16 (size - 20) size (empty_section h) (e ∙ sym passed.step) (omega arith)
        (omega (arith, passed.long)) (omega arith) sound
        (λ le end. whole-header n later o seen place b few each sound some kind h is passed.four passed.long passed.major le end)

too-few : (s : Section) (place : ℕ) (b : List ℕ) → length b < 12 → unit (Block s) place b ≡ Needs
unfolding unit
too-few s place b few = rw (lt-ltb (length b) 12 few) refl

continues : (n : ℕ) → Later n
continues zero o seen place b few room each sound =
    ends-here o seen place b (too-few (section_of o seen) place b (omega (arith, few)))
continues (suc n) o seen place b few room each sound =
    ⊎_elim (λ (less : length b < 12). ends-here o seen place b (too-few (section_of o seen) place b less))
    (λ (some : 12 ≤ length b). by (continues n) some (kind_of b) refl) (cases_lt (length b) 12)
  where
    first : Step
    first = unit (Block (section_of o seen)) place b

    by : Later n → 12 ≤ length b → (kind : FileKind) → kind_of b ≡ kind → Continues o seen place b (Given o seen place b)
    by later some Pcapng is = at-header n later o seen place b few each sound some is first refl
    by later some (Pcap order) is =
        at-block n later o seen place b few room each sound some
        (λ e. let same : Pcap order ≡ Pcapng = sym is ∙ e in cc) first refl
    by later some Unknown is =
        at-block n later o seen place b few room each sound some
        (λ e. let same : Unknown ≡ Pcapng = sym is ∙ e in cc) first refl

-- ---- the file

cut_at-is : (b rest : List ℕ) → cut_at (0 + (length b - length rest)) rest ≡ cut_off b rest
cut_at-is b [] = refl
cut_at-is b (x ∷ rest) =
    ap (λ (n : ℕ). cut_at n (x ∷ rest))
    (let same : 0 + (length b - length (x ∷ rest)) ≡ length b - length (x ∷ rest) = omega arith in same)

named : (seen : List Interface) (f : Framed) → IsBlock seen f → (block_kind f < 2 ^ 32) × (block_kind f ≡ 0x0A0D0D0A → ⊥)
named seen (Description i) is = (omega arith, λ e. omega (arith, e))
named seen (Enhanced interface unread original content) is = (omega arith, λ e. omega (arith, e))
named seen (Old interface unread original content) is = (omega arith, λ e. omega (arith, e))
named seen (Simple original content) is = (omega arith, λ e. omega (arith, e))
named seen (Other kind body) is = (is.0, is.1)

-- octets that begin with a header have no block before it
no-blocks : (o : Order) (b rest : List ℕ) (blocks : List Framed) → b ≡ flat_map (framed_octets o) blocks ++ rest → AreBlocks o [] blocks
    → kind_of b ≡ Pcapng → blocks ≡ []
no-blocks o b rest [] parts are kind = refl
no-blocks o b rest (f ∷ more) parts are kind =
    let after : List ℕ = flat_map (framed_octets o) more ++ rest in
    let whole : b ≡ laid o (block_kind f) (block_body o f) after = parts
    ∙ append_assoc (framed_octets o f) (flat_map (framed_octets o) more) rest ∙ laid-is o (block_kind f) (block_body o f) after in
    let is = named [] f are.0 in
    absurd (not-section o (block_kind f) (octets_4 o (12 + length (block_body o f)) ++ (block_body o f
    ++ (octets_4 o (12 + length (block_body o f)) ++ after))) is.0 is.1 (ap kind_of (sym whole) ∙ kind))

pub told-pcapng : (b : List ℕ) → AreOctets b → kind_of b ≡ Pcapng → 4 ≤ length b → IsUndamaged (told true b).fault
    → IsPcapng b (told true b)
told-pcapng b each kind le sound =
    let e : told true b ≡ Given Big [] 0 b = start-told true (section_of Big []) b kind le in
    let c : Continues Big [] 0 b (Given Big [] 0 b) =
    continues (length b) Big [] 0 b (omega arith) (omega arith) each (subst (λ (t : Told). IsUndamaged t.fault) e sound) in
    let later : List ℕ = flat_map section_octets c.sections ++ c.rest in
    let none : c.blocks ≡ [] = no-blocks Big b later c.blocks c.parts c.are_blocks kind in
    let packets : List Captured = flat_map section_packets c.sections in
    record {
      packets = packets;
      last = c.last;
      rest = c.rest;
      sections = record {
        sections = c.sections;
        parts = c.parts ∙ ap (λ (blocks : List Framed). flat_map (framed_octets Big) blocks ++ later) none;
        are_sections = c.are_sections;
        packets_are = refl;
      };
      at_most_one = c.at_most_one;
      given_is = e ∙ c.given_is
          ∙ ap (λ (blocks : List Framed). told_with (packets_after [] blocks ++ (packets ++ c.last))
          (cut_at (0 + (length b - length c.rest)) c.rest)) none
          ∙ ap (told_with (packets ++ c.last)) (cut_at-is b c.rest);
    }
