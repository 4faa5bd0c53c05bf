-- A block of a pcapng file that is put together gives its packet.
use Rattle.std.proofs.Common.{◌≡◌, ℕ, ◌+◌, ◌-◌, ◌%◌, ◌^◌, ◌<◌, ◌≤◌, Bool, true, false, cond, List, [], ◌∷◌, ◌++◌, length}
use Rattle.std.proofs.Common.{take, drop, refl, sym, ◌∙◌, ap, append_assoc, arith, length-append}
use Rattle.std.specs.Prelude.{◌==◌, ◌||◌, slice_get}
use Rattle.std.proofs.lemmas.Bool.{ne_eqb, eqb-true}
use Rattle.std.proofs.lemmas.List.{length-map, length-drop, take_at, drop_at, drop-drop, append-nil}
use Rattle.capture_file.specs.Numbers.{number_2, number_4}
use Rattle.capture_file.specs.Packets.{Captured, with_front}
use Rattle.capture_file.specs.Units.{Block, unit, kind_of, least, rest_after, sized_in, kind_in, with_interface}
use Rattle.capture_file.specs.Units.{enhanced_in}
use Rattle.capture_file.specs.Told.{told_of}
use Rattle.capture_file.specs.Spelled.{octets_2, octets_4}
use Rattle.capture_file.specs.Sections.{Interface, Content, Padded, Lacking, Framed, Description, Enhanced, Old, Simple, Other}
use Rattle.capture_file.specs.Sections.{block_octets, captured_length, content_octets, block_body, framed_octets, IsContent}
use Rattle.capture_file.specs.Sections.{IsBlock, added, packet_of, block_packets}
use Rattle.capture_file.specs.declared.order.Order.{Order}
use Rattle.capture_file.specs.declared.order.Order.TheVariants.{Big, Little}
use Rattle.capture_file.specs.declared.section.Section.{Section}
use Rattle.capture_file.specs.declared.file_kind.FileKind.TheVariants.{Pcap, Pcapng, Unknown}
use Rattle.capture_file.proofs.WordLemmas.{length-octets_2, length-octets_4, number_2-written, number_4-written, number_2-past}
use Rattle.capture_file.proofs.WordLemmas.{number_4-past}
use Rattle.capture_file.proofs.WordLemmas.{AreOctets-4, spelled_4}
use Rattle.capture_file.proofs.BlockLemmas.{section_of, link_of, with_interface-is, passes, block-unit, kind-sized, interface-takes, taken}
use Rattle.capture_file.proofs.BlockLemmas.{HasContent, Gives, taken-within, enhanced-takes, simple-takes}

-- ---- the numbers and the body of a block

-- a block, and what follows it
abbrev pub laid : Order → ℕ → List ℕ → List ℕ → List ℕ
laid o kind body more =
    octets_4 o kind ++ (octets_4 o (12 + length body) ++ (body ++ (octets_4 o (12 + length body) ++ more)))

pub laid-is : (o : Order) (kind : ℕ) (body more : List ℕ) → block_octets o kind body ++ more ≡ laid o kind body more
laid-is o kind body more =
    let size : List ℕ = octets_4 o (12 + length body) in
    append_assoc (octets_4 o kind ++ size ++ body) size more
    ∙ append_assoc (octets_4 o kind ++ size) body (size ++ more)
    ∙ append_assoc (octets_4 o kind) size (body ++ (size ++ more))

pub length-laid : (o : Order) (kind : ℕ) (body more : List ℕ) → length (laid o kind body more) ≡ 12 + length body + length more
length-laid Big kind body more = omega (arith, length-append body (octets_4 Big (12 + length body) ++ more))
length-laid Little kind body more = omega (arith, length-append body (octets_4 Little (12 + length body) ++ more))

pub length-block : (o : Order) (kind : ℕ) (body : List ℕ) → length (block_octets o kind body) ≡ 12 + length body
length-block o kind body =
    omega (arith, length-append (block_octets o kind body) [], ap length (laid-is o kind body []), length-laid o kind body [])

-- the body, and what follows it
abbrev tail : Order → List ℕ → List ℕ → List ℕ
tail o body more = body ++ (octets_4 o (12 + length body) ++ more)

pub laid-kind : (o : Order) (kind : ℕ) (body more : List ℕ) → kind < 2 ^ 32 → number_4 o (laid o kind body more) 0 ≡ kind
laid-kind o kind body more small = number_4-written o kind (octets_4 o (12 + length body) ++ tail o body more) small

pub laid-size : (o : Order) (kind : ℕ) (body more : List ℕ) → 12 + length body < 2 ^ 32
    → number_4 o (laid o kind body more) 4 ≡ 12 + length body
laid-size o kind body more small =
    number_4-past o (octets_4 o kind) (octets_4 o (12 + length body) ++ tail o body more) 4 0 (length-octets_4 o kind)
    ∙ number_4-written o (12 + length body) (tail o body more) small

pub laid-4 : (o : Order) (kind : ℕ) (body more : List ℕ) (k : ℕ)
    → number_4 o (laid o kind body more) (4 + (4 + k)) ≡ number_4 o (tail o body more) k
laid-4 o kind body more k =
    number_4-past o (octets_4 o kind) (octets_4 o (12 + length body) ++ tail o body more) 4 (4 + k) (length-octets_4 o kind)
    ∙ number_4-past o (octets_4 o (12 + length body)) (tail o body more) 4 k (length-octets_4 o (12 + length body))

pub laid-2 : (o : Order) (kind : ℕ) (body more : List ℕ) (k : ℕ)
    → number_2 o (laid o kind body more) (4 + (4 + k)) ≡ number_2 o (tail o body more) k
laid-2 o kind body more k =
    number_2-past o (octets_4 o kind) (octets_4 o (12 + length body) ++ tail o body more) 4 (4 + k) (length-octets_4 o kind)
    ∙ number_2-past o (octets_4 o (12 + length body)) (tail o body more) 4 k (length-octets_4 o (12 + length body))

pub laid-end : (o : Order) (kind : ℕ) (body more : List ℕ) → 12 + length body < 2 ^ 32
    → number_4 o (laid o kind body more) (12 + length body - 4) ≡ 12 + length body
laid-end o kind body more small =
    ap (number_4 o (laid o kind body more)) (let same : 12 + length body - 4 ≡ 4 + (4 + (length body + 0)) = omega arith in same)
    ∙ laid-4 o kind body more (length body + 0)
    ∙ number_4-past o body (octets_4 o (12 + length body) ++ more) (length body) 0 refl
    ∙ number_4-written o (12 + length body) more small

pub drop-laid : (o : Order) (kind : ℕ) (body more : List ℕ) (k : ℕ) → drop (8 + k) (laid o kind body more) ≡ drop k (tail o body more)
drop-laid o kind body more k = sym (drop-drop k 8 (laid o kind body more)) ∙ ap (drop k) (by o) where
  by : (order : Order) → drop 8 (octets_4 order kind ++ (octets_4 order (12 + length body) ++ tail o body more)) ≡ tail o body more
  by Big = refl
  by Little = refl

pub after-laid : (o : Order) (kind : ℕ) (body more : List ℕ) → drop (12 + length body) (laid o kind body more) ≡ more
after-laid o kind body more =
    ap (λ (l : List ℕ). drop (12 + length body) l) (sym (laid-is o kind body more))
    ∙ drop_at (block_octets o kind body) more (12 + length body) (length-block o kind body)

-- ---- a block that begins no section

pub section-front : (b : List ℕ) → kind_of b ≡ Pcapng → number_4 Big b 0 ≡ 0x0A0D0D0A
section-front b e =
    by ((number_4 Big b 0 == 0xA1B2C3D4) || (number_4 Big b 0 == 0xA1B23C4D))
    ((number_4 Little b 0 == 0xA1B2C3D4) || (number_4 Little b 0 == 0xA1B23C4D)) (number_4 Big b 0 == 0x0A0D0D0A) refl e
  where
    by : (big little section : Bool) → (number_4 Big b 0 == 0x0A0D0D0A) ≡ section
        → cond big (Pcap Big) (cond little (Pcap Little) (cond section Pcapng Unknown)) ≡ Pcapng → number_4 Big b 0 ≡ 0x0A0D0D0A
    by true little section f k = absurd (cc)
    by false true section f k = absurd (cc)
    by false false true f k = eqb-true (number_4 Big b 0) 0x0A0D0D0A f
    by false false false f k = absurd (cc)

-- the type of a section header is the same in either order
same-type : (o : Order) (kind : ℕ) (more : List ℕ) → kind < 2 ^ 32 → number_4 Big (octets_4 o kind ++ more) 0 ≡ 0x0A0D0D0A
    → kind ≡ 0x0A0D0D0A
same-type Big kind more small e = sym (number_4-written Big kind more small) ∙ e
same-type Little kind more small e =
    let spelled : octets_4 Big (number_4 Big (octets_4 Little kind) 0) ++ [] ≡ octets_4 Little kind =
    spelled_4 Big (octets_4 Little kind) 0 (AreOctets-4 Little kind) (omega arith) in
    let is : octets_4 Big 0x0A0D0D0A ++ [] ≡ octets_4 Little kind = ap (λ (n : ℕ). octets_4 Big n ++ []) (sym e) ∙ spelled in
    sym (number_4-written Little kind [] small) ∙ sym (ap (λ (l : List ℕ). number_4 Little l 0) is)

pub not-section : (o : Order) (kind : ℕ) (more : List ℕ) → kind < 2 ^ 32 → (kind ≡ 0x0A0D0D0A → ⊥)
    → kind_of (octets_4 o kind ++ more) ≡ Pcapng → ⊥
not-section o kind more small other e = other (same-type o kind more small (section-front (octets_4 o kind ++ more) e))

-- what a block is read by
pub framed-sized : (s : Section) (place kind : ℕ) (body more : List ℕ) → kind < 2 ^ 32 → (kind ≡ 0x0A0D0D0A → ⊥)
    → 12 + length body < 2 ^ 32 → (12 + length body) % 4 ≡ 0 → least kind ≤ 12 + length body
    → unit (Block s) place (laid s.order kind body more) ≡ sized_in s place kind (12 + length body) (laid s.order kind body more)
framed-sized s place kind body more small other short four le =
    let b : List ℕ = laid s.order kind body more in
    let size : ℕ = 12 + length body in
    block-unit s place b (omega (arith, length-laid s.order kind body more))
    (not-section s.order kind (octets_4 s.order size ++ tail s.order body more) small other)
    ∙ ap (λ (k : ℕ). kind_in s place k (number_4 s.order b 4) b) (laid-kind s.order kind body more small)
    ∙ ap (λ (n : ℕ). kind_in s place kind n b) (laid-size s.order kind body more short)
    ∙ kind-sized s place kind size b four le

-- ---- each block

-- the content of a packet within its block
has-content : (start size : ℕ) (b tail : List ℕ) (content : Content) → drop start b ≡ content_octets content ++ tail
    → size - 4 - start ≡ length (content_octets content) → start ≤ length b → IsContent content → HasContent start size b content
has-content start size b tail (Lacking captured octets) e count le is = omega (arith, count, is.0)
has-content start size b tail (Padded octets padding options) e count le is =
    let one : octets ++ padding ++ options ++ tail ≡ octets ++ (padding ++ (options ++ tail)) =
    append_assoc (octets ++ padding) options tail ∙ append_assoc octets padding (options ++ tail) in (
      omega (arith, count, length-append (octets ++ padding) options, length-append octets padding),
      omega (
        arith,
        le,
        length-drop start b,
        ap length e,
        length-append (octets ++ padding ++ options) tail,
        length-append (octets ++ padding) options,
        length-append octets padding,
      ),
      ap (take (length octets)) (e ∙ one) ∙ take_at octets (padding ++ (options ++ tail)) (length octets) refl,
    )

-- a block that was read is passed
pub passes-framed : (whole : Bool) (before : Section) (o : Order) (next : List Interface) (place kind : ℕ) (body more : List ℕ)
    (packets : List Captured) (used : ℕ) → 12 + length body < 2 ^ 32 → used ≤ 8 + length body
    → unit (Block before) place (laid o kind body more) ≡ rest_after (section_of o next) place (12 + length body) packets used
    → told_of whole (Block before) place (block_octets o kind body ++ more)
    ≡ with_front packets (told_of whole (Block (section_of o next)) (place + (12 + length body)) more)
passes-framed whole before o next place kind body more packets used short le e =
    let s : Section = section_of o next in
    let size : ℕ = 12 + length body in
    ap (told_of whole (Block before) place) (laid-is o kind body more)
    ∙ passes whole (Block before) place (laid o kind body more) packets used size s e (omega (arith, le))
    (omega (arith, length-laid o kind body more)) (laid-end o kind body more short)
    ∙ ap (λ (l : List ℕ). with_front packets (told_of whole (Block s) (place + size) l)) (after-laid o kind body more)

four-parts : (a b c d rest : List ℕ) → a ++ b ++ c ++ d ++ rest ≡ a ++ (b ++ (c ++ (d ++ rest)))
four-parts a b c d rest =
    append_assoc (a ++ b ++ c) d rest ∙ append_assoc (a ++ b) c (d ++ rest) ∙ append_assoc a b (c ++ (d ++ rest))

-- a packet that names its interface: twelve octets, two lengths and its content
abbrev packet_body : Order → List ℕ → ℕ → Content → List ℕ
packet_body o head original content =
    head ++ octets_4 o (captured_length content) ++ octets_4 o original ++ content_octets content

packet-head : (o : Order) (head : List ℕ) (original : ℕ) (content : Content) (rest : List ℕ)
    → packet_body o head original content ++ rest
    ≡ head ++ (octets_4 o (captured_length content) ++ (octets_4 o original ++ (content_octets content ++ rest)))
packet-head o head original content rest =
    four-parts head (octets_4 o (captured_length content)) (octets_4 o original) (content_octets content) rest

length-packet : (o : Order) (head : List ℕ) (original : ℕ) (content : Content) → length head ≡ 12
    → length (packet_body o head original content) ≡ 20 + length (content_octets content)
length-packet o head original content twelve =
    omega (
      arith,
      twelve,
      length-append (head ++ octets_4 o (captured_length content) ++ octets_4 o original) (content_octets content),
      length-append (head ++ octets_4 o (captured_length content)) (octets_4 o original),
      length-append head (octets_4 o (captured_length content)),
      length-octets_4 o (captured_length content),
      length-octets_4 o original,
    )

packet-gives : (o : Order) (seen : List Interface) (place kind interface original : ℕ) (head more : List ℕ) (content : Content)
    → length head ≡ 12 → captured_length content < 2 ^ 32 → original < 2 ^ 32 → IsContent content
    → Gives (section_of o seen) place (12 + length (packet_body o head original content)) 28
    (packet_of (slice_get seen interface) original content)
    (enhanced_in (section_of o seen) place (12 + length (packet_body o head original content)) interface
    (laid o kind (packet_body o head original content) more))
packet-gives o seen place kind interface original head more content twelve captured small is =
    let body : List ℕ = packet_body o head original content in
    let rest : List ℕ = octets_4 o (12 + length body) ++ more in
    let b : List ℕ = laid o kind body more in
    let lengths : length body ≡ 20 + length (content_octets content) = length-packet o head original content twelve in
    let last : List ℕ = content_octets content ++ rest in
    let front : List ℕ = head ++ octets_4 o (captured_length content) ++ octets_4 o original in
    let parts = packet-head o head original content rest in
    enhanced-takes o seen place (12 + length body) interface original b content
    (omega (arith, lengths, length-laid o kind body more))
    (laid-4 o kind body more 12
    ∙ ap (λ (l : List ℕ). number_4 o l 12) parts
    ∙ number_4-past o head (octets_4 o (captured_length content) ++ (octets_4 o original ++ last)) 12 0 twelve
    ∙ number_4-written o (captured_length content) (octets_4 o original ++ last) captured)
    (laid-4 o kind body more 16
    ∙ ap (λ (l : List ℕ). number_4 o l 16) parts
    ∙ number_4-past o head (octets_4 o (captured_length content) ++ (octets_4 o original ++ last)) 12 4 twelve
    ∙ number_4-past o (octets_4 o (captured_length content)) (octets_4 o original ++ last) 4 0
    (length-octets_4 o (captured_length content))
    ∙ number_4-written o original last small)
    (has-content 28 (12 + length body) b rest content
    (drop-laid o kind body more 20
    ∙ ap (drop 20) (append_assoc front (content_octets content) rest)
    ∙ drop_at front last 20 (omega (
      arith,
      twelve,
      length-append (head ++ octets_4 o (captured_length content)) (octets_4 o original),
      length-append head (octets_4 o (captured_length content)),
      length-octets_4 o (captured_length content),
      length-octets_4 o original,
    )))
    (omega (arith, lengths)) (omega (arith, lengths, length-laid o kind body more)) is)

-- the content has as many octets as a multiple of four
content-four : (content : Content) → IsContent content → length (content_octets content) % 4 ≡ 0
content-four (Lacking captured octets) is = is.1
content-four (Padded octets padding options) is =
    omega (arith, is.0, is.2, length-append (octets ++ padding) options, length-append octets padding)

-- a block after these interfaces gives its packets, and its section has its interface as well
abbrev pub Told-framed : Bool → Order → List Interface → ℕ → Framed → List ℕ → Type 0
Told-framed whole o seen place f more =
    told_of whole (Block (section_of o seen)) place (framed_octets o f ++ more)
    ≡ with_front (block_packets seen f)
    (told_of whole (Block (section_of o (seen ++ added f))) (place + (12 + length (block_body o f))) more)

description-told : (whole : Bool) (o : Order) (seen : List Interface) (place : ℕ) (i : Interface) (more : List ℕ)
    → IsBlock seen (Description i) → 12 + length (block_body o (Description i)) < 2 ^ 32
    → Told-framed whole o seen place (Description i) more
description-told whole o seen place i more is short =
    let s : Section = section_of o seen in
    let body : List ℕ = block_body o (Description i) in
    let size : ℕ = 12 + length body in
    let b : List ℕ = laid o 1 body more in
    let rest : List ℕ = octets_4 o size ++ more in
    let lengths : length body ≡ 8 + length i.options =
    omega (
      arith,
      is.1,
      length-append (octets_2 o i.link ++ i.reserved ++ octets_4 o i.snap) i.options,
      length-append (octets_2 o i.link ++ i.reserved) (octets_4 o i.snap),
      length-append (octets_2 o i.link) i.reserved,
      length-octets_2 o i.link,
      length-octets_4 o i.snap,
    ) in
    let parts = four-parts (octets_2 o i.link) i.reserved (octets_4 o i.snap) i.options rest in
    let last : List ℕ = octets_4 o i.snap ++ (i.options ++ rest) in
    let link : number_2 o b 8 ≡ i.link = laid-2 o 1 body more 0 ∙ ap (λ (l : List ℕ). number_2 o l 0) parts
    ∙ number_2-written o i.link (i.reserved ++ last) is.0 in
    let snap : number_4 o b 12 ≡ i.snap = laid-4 o 1 body more 4
    ∙ ap (λ (l : List ℕ). number_4 o l 4) parts
    ∙ number_4-past o (octets_2 o i.link) (i.reserved ++ last) 2 2 (length-octets_2 o i.link)
    ∙ number_4-past o i.reserved last 2 0 is.1
    ∙ number_4-written o i.snap (i.options ++ rest) is.2 in
    passes-framed whole s o (seen ++ i ∷ []) place 1 body more [] 16 short (omega (arith, lengths))
    (framed-sized s place 1 body more (omega arith) (λ e. omega (arith, e)) short (omega (arith, lengths, is.3)) (omega (arith, lengths))
    ∙ interface-takes s place size b (omega (arith, lengths, length-laid o 1 body more)) (omega (arith, is.4, length-map seen link_of))
    ∙ ap (λ (n : ℕ). rest_after (with_interface s n (number_4 o b 12)) place size [] 16) link
    ∙ ap (λ (n : ℕ). rest_after (with_interface s i.link n) place size [] 16) snap
    ∙ ap (λ (t : Section). rest_after t place size [] 16) (with_interface-is o seen i))

-- such a block adds no interface
no-more : (whole : Bool) (o : Order) (seen : List Interface) (packets : List Captured) (place : ℕ) (more : List ℕ)
    → with_front packets (told_of whole (Block (section_of o seen)) place more)
    ≡ with_front packets (told_of whole (Block (section_of o (seen ++ []))) place more)
no-more whole o seen packets place more =
    ap (λ (all : List Interface). with_front packets (told_of whole (Block (section_of o all)) place more)) (sym (append-nil seen))

enhanced-told : (whole : Bool) (o : Order) (seen : List Interface) (place interface original : ℕ) (unread more : List ℕ)
    (content : Content) → IsBlock seen (Enhanced interface unread original content)
    → 12 + length (block_body o (Enhanced interface unread original content)) < 2 ^ 32
    → Told-framed whole o seen place (Enhanced interface unread original content) more
enhanced-told whole o seen place interface original unread more content is short =
    let s : Section = section_of o seen in
    let head : List ℕ = octets_4 o interface ++ unread in
    let twelve : length head ≡ 12 = omega (arith, is.1, length-append (octets_4 o interface) unread, length-octets_4 o interface) in
    let body : List ℕ = packet_body o head original content in
    let size : ℕ = 12 + length body in
    let b : List ℕ = laid o 6 body more in
    let rest : List ℕ = octets_4 o size ++ more in
    let lengths : length body ≡ 20 + length (content_octets content) = length-packet o head original content twelve in
    let last : List ℕ = octets_4 o (captured_length content) ++ (octets_4 o original ++ (content_octets content ++ rest)) in
    let p : Captured = packet_of (slice_get seen interface) original content in
    let named : number_4 o b 8 ≡ interface = laid-4 o 6 body more 0
    ∙ ap (λ (l : List ℕ). number_4 o l 0)
    (packet-head o head original content rest ∙ append_assoc (octets_4 o interface) unread last)
    ∙ number_4-written o interface (unread ++ last) is.0 in
    passes-framed whole s o seen place 6 body more (p ∷ []) (taken 28 p) short
    (omega (arith, lengths, taken-within 28 original (slice_get seen interface) content))
    (framed-sized s place 6 body more (omega arith) (λ e. omega (arith, e)) short (omega (arith, lengths, content-four content is.4))
    (omega (arith, lengths))
    ∙ ap (λ (n : ℕ). enhanced_in s place size n b) named
    ∙ packet-gives o seen place 6 interface original head more content twelve is.2 is.3 is.4)
    ∙ no-more whole o seen (p ∷ []) (place + size) more

old-told : (whole : Bool) (o : Order) (seen : List Interface) (place interface original : ℕ) (unread more : List ℕ)
    (content : Content) → IsBlock seen (Old interface unread original content)
    → 12 + length (block_body o (Old interface unread original content)) < 2 ^ 32
    → Told-framed whole o seen place (Old interface unread original content) more
old-told whole o seen place interface original unread more content is short =
    let s : Section = section_of o seen in
    let head : List ℕ = octets_2 o interface ++ unread in
    let twelve : length head ≡ 12 = omega (arith, is.1, length-append (octets_2 o interface) unread, length-octets_2 o interface) in
    let body : List ℕ = packet_body o head original content in
    let size : ℕ = 12 + length body in
    let b : List ℕ = laid o 2 body more in
    let rest : List ℕ = octets_4 o size ++ more in
    let lengths : length body ≡ 20 + length (content_octets content) = length-packet o head original content twelve in
    let last : List ℕ = octets_4 o (captured_length content) ++ (octets_4 o original ++ (content_octets content ++ rest)) in
    let p : Captured = packet_of (slice_get seen interface) original content in
    let named : number_2 o b 8 ≡ interface = laid-2 o 2 body more 0
    ∙ ap (λ (l : List ℕ). number_2 o l 0)
    (packet-head o head original content rest ∙ append_assoc (octets_2 o interface) unread last)
    ∙ number_2-written o interface (unread ++ last) is.0 in
    passes-framed whole s o seen place 2 body more (p ∷ []) (taken 28 p) short
    (omega (arith, lengths, taken-within 28 original (slice_get seen interface) content))
    (framed-sized s place 2 body more (omega arith) (λ e. omega (arith, e)) short (omega (arith, lengths, content-four content is.4))
    (omega (arith, lengths))
    ∙ ap (λ (n : ℕ). enhanced_in s place size n b) named
    ∙ packet-gives o seen place 2 interface original head more content twelve is.2 is.3 is.4)
    ∙ no-more whole o seen (p ∷ []) (place + size) more

simple-told : (whole : Bool) (o : Order) (seen : List Interface) (place original : ℕ) (more : List ℕ)
    (content : Content) → IsBlock seen (Simple original content) → 12 + length (block_body o (Simple original content)) < 2 ^ 32
    → Told-framed whole o seen place (Simple original content) more
simple-told whole o seen place original more content is short =
    let s : Section = section_of o seen in
    let body : List ℕ = octets_4 o original ++ content_octets content in
    let size : ℕ = 12 + length body in
    let b : List ℕ = laid o 3 body more in
    let rest : List ℕ = octets_4 o size ++ more in
    let lengths : length body ≡ 4 + length (content_octets content) =
    omega (arith, length-append (octets_4 o original) (content_octets content), length-octets_4 o original) in
    let parts = append_assoc (octets_4 o original) (content_octets content) rest in
    let p : Captured = packet_of (slice_get seen 0) original content in
    let number : number_4 o b 8 ≡ original = laid-4 o 3 body more 0 ∙ ap (λ (l : List ℕ). number_4 o l 0) parts
    ∙ number_4-written o original (content_octets content ++ rest) is.0 in
    let there : drop 12 b ≡ content_octets content ++ rest = drop-laid o 3 body more 4 ∙ ap (drop 4) parts
    ∙ drop_at (octets_4 o original) (content_octets content ++ rest) 4 (length-octets_4 o original) in
    passes-framed whole s o seen place 3 body more (p ∷ []) (taken 12 p) short
    (omega (arith, lengths, taken-within 12 original (slice_get seen 0) content))
    (framed-sized s place 3 body more (omega arith) (λ e. omega (arith, e)) short (omega (arith, lengths, content-four content is.2))
    (omega (arith, lengths))
    ∙ simple-takes o seen place size original b content is.1 number
    (has-content 12 size b rest content there (omega (arith, lengths)) (omega (arith, lengths, length-laid o 3 body more)) is.2))
    ∙ no-more whole o seen (p ∷ []) (place + size) more

other-told : (whole : Bool) (o : Order) (seen : List Interface) (place kind : ℕ) (body more : List ℕ) → IsBlock seen (Other kind body)
    → 12 + length body < 2 ^ 32 → Told-framed whole o seen place (Other kind body) more
other-told whole o seen place kind body more is short =
    let s : Section = section_of o seen in
    let size : ℕ = 12 + length body in
    let b : List ℕ = laid o kind body more in
    let one : (kind == 1) ≡ false = ne_eqb kind 1 is.2 in
    let two : (kind == 2) ≡ false = ne_eqb kind 2 is.3 in
    let three : (kind == 3) ≡ false = ne_eqb kind 3 is.4 in
    let six : (kind == 6) ≡ false = ne_eqb kind 6 is.5 in
    let shortest : least kind ≡ 12 = rw (one, two, six, three) refl in
    let passed : sized_in s place kind size b ≡ rest_after s place size [] 8 = rw (one, six, two, three) refl in
    passes-framed whole s o seen place kind body more [] 8 short (omega arith)
    (framed-sized s place kind body more is.0 is.1 short (omega (arith, is.6)) (omega (arith, shortest)) ∙ passed)
    ∙ no-more whole o seen [] (place + size) more

pub framed-told : (whole : Bool) (o : Order) (seen : List Interface) (place : ℕ) (f : Framed) (more : List ℕ) → IsBlock seen f
    → 12 + length (block_body o f) < 2 ^ 32 → Told-framed whole o seen place f more
framed-told whole o seen place (Description i) more is short = description-told whole o seen place i more is short
framed-told whole o seen place (Enhanced interface unread original content) more is short =
    enhanced-told whole o seen place interface original unread more content is short
framed-told whole o seen place (Old interface unread original content) more is short =
    old-told whole o seen place interface original unread more content is short
framed-told whole o seen place (Simple original content) more is short = simple-told whole o seen place original more content is short
framed-told whole o seen place (Other kind body) more is short = other-told whole o seen place kind body more is short
