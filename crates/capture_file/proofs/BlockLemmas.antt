-- A block of a pcapng file, by the numbers in it.
use Rattle.std.proofs.Common.{◌≡◌, ℕ, ◌+◌, ◌-◌, ◌%◌, ◌<◌, ◌≤◌, Bool, cond, List, [], ◌∷◌, ◌++◌, length}
use Rattle.std.proofs.Common.{take, drop, map, Option, Some, None, refl, sym, ◌∙◌, ap, subst, ⊎_elim, arith, length-append}
use Rattle.std.proofs.Common.{zero, suc}
use Rattle.std.specs.Prelude.{◌==◌, slice_get, slice_range, slice_index_or}
use Rattle.std.specs.Option.{option_map}
use Rattle.std.proofs.Math.Dec.{eqb-suc-zero}
use Rattle.std.proofs.lemmas.Bool.{lt-ltb, le-ltb, lt-leb, le-leb, eq-eqb, ne_eqb, cases_lt}
use Rattle.std.proofs.lemmas.List.{drop-drop, length-drop, length-map, map-append}
use Rattle.std.proofs.lemmas.Option.{slice_get_within, get_or_from_slice_get, slice_get-map}
use Rattle.capture_file.specs.Numbers.{number_2, number_4}
use Rattle.capture_file.specs.Packets.{Captured, Packet, Bad, with_front}
use Rattle.capture_file.specs.Units.{At, Block, Rest, Step, Takes, most, most_interfaces, unit, kind_of, order_of}
use Rattle.capture_file.specs.Units.{empty_section, section_in, section_by, least, rest_after, packet_in, with_interface}
use Rattle.capture_file.specs.Units.{interface_in, sized_in, kind_in, block_by, enhanced_in, simple_in, simple_captured}
use Rattle.capture_file.specs.Told.{told_of}
use Rattle.capture_file.specs.Sections.{Interface, Content, Padded, Lacking, captured_length, content_octets, packet_of}
use Rattle.capture_file.specs.Sections.{simple_length}
use Rattle.capture_file.specs.declared.order.Order.{Order}
use Rattle.capture_file.specs.declared.section.Section.{Section}
use Rattle.capture_file.specs.declared.file_kind.FileKind.{FileKind}
use Rattle.capture_file.specs.declared.file_kind.FileKind.TheVariants.{Pcap, Pcapng, Unknown}
use Rattle.capture_file.specs.declared.held.BadPacket.TheVariants.{NoInterface, BadLength, TooLong}
use Rattle.capture_file.proofs.ToldLemmas.{told-takes}
use Rattle.capture_file.proofs.StepLemmas.{number_4-drop, rest-read}

-- ---- a section after the descriptions of interfaces

abbrev pub first_snap : List Interface → ℕ
first_snap [] = 0
first_snap (i ∷ more) = i.snap

abbrev pub link_of : Interface → ℕ
link_of i = i.link

abbrev pub section_of : Order → List Interface → Section
section_of o seen = record { order = o; links = map link_of seen; snap = first_snap seen }

pub with_interface-is : (o : Order) (seen : List Interface) (i : Interface)
    → with_interface (section_of o seen) i.link i.snap ≡ section_of o (seen ++ i ∷ [])
with_interface-is o [] i = refl
with_interface-is o (j ∷ more) i =
    ap (λ (links : List ℕ). section_with o links (cond (length (j.link ∷ map link_of more) == 0) i.snap j.snap))
    (sym (map-append link_of (j ∷ more) (i ∷ [])))
    ∙ ap (λ (first : Bool). section_with o (map link_of (j ∷ more ++ i ∷ [])) (cond first i.snap j.snap))
    (eqb-suc-zero (length (map link_of more)))
  where
    section_with : Order → List ℕ → ℕ → Section
    section_with order links snap = record { order = order; links = links; snap = snap }

-- ---- a whole block is passed

pub passes : (whole : Bool) (at : At) (place : ℕ) (b : List ℕ) (packets : List Captured) (used size : ℕ) (s : Section)
    → unit at place b ≡ Takes packets used (Rest s (size - 4 - used) size place) → used + 4 ≤ size → size ≤ length b
    → number_4 s.order b (size - 4) ≡ size
    → told_of whole at place b ≡ with_front packets (told_of whole (Block s) (place + size) (drop size b))
passes whole at place b packets used size s e some le end =
    let left : ℕ = size - 4 - used in
    let places : place + used + (left + 4) ≡ place + size = omega (arith, some) in
    let all : used + (left + 4) ≡ size = omega (arith, some) in
    let enough : left + 4 ≤ length (drop used b) = omega (arith, some, le, length-drop used b) in
    let same : number_4 s.order (drop used b) left ≡ size = number_4-drop s.order b used (size - 4) (omega (arith, some)) ∙ end in
    told-takes whole at place b packets used (Rest s left size place) e
    ∙ ap (with_front packets)
    (told-takes whole (Rest s left size place) (place + used) (drop used b) [] (left + 4) (Block s)
    (rest-read s left size place (place + used) (drop used b) enough (eq-eqb (number_4 s.order (drop used b) left) size same))
    ∙ ap (λ (n : ℕ). told_of whole (Block s) n (drop (left + 4) (drop used b))) places
    ∙ ap (told_of whole (Block s) (place + size)) (drop-drop (left + 4) used b ∙ ap (λ (n : ℕ). drop n b) all))

-- ---- the unit of a block, by its kind

block-by : (s : Section) (place : ℕ) (b : List ℕ) (kind : FileKind) → (kind ≡ Pcapng → ⊥)
    → block_by kind s place b ≡ kind_in s place (number_4 s.order b 0) (number_4 s.order b 4) b
block-by s place b Pcapng other = absurd (other refl)
block-by s place b (Pcap order) other = refl
block-by s place b Unknown other = refl

pub block-unit : (s : Section) (place : ℕ) (b : List ℕ) → 12 ≤ length b → (kind_of b ≡ Pcapng → ⊥)
    → unit (Block s) place b ≡ kind_in s place (number_4 s.order b 0) (number_4 s.order b 4) b
unfolding unit
block-unit s place b le other = rw (le-ltb (length b) 12 le) (block-by s place b (kind_of b) other)

pub section-unit : (s : Section) (place : ℕ) (b : List ℕ) → 12 ≤ length b → kind_of b ≡ Pcapng
    → unit (Block s) place b ≡ section_by (order_of b) place b
unfolding unit
section-unit s place b le kind = rw (le-ltb (length b) 12 le, kind, le-ltb (length b) 12 le) refl

pub kind-sized : (s : Section) (place kind size : ℕ) (b : List ℕ) → size % 4 ≡ 0 → least kind ≤ size
    → kind_in s place kind size b ≡ sized_in s place kind size b
kind-sized s place kind size b four le = rw (four, le-ltb size (least kind) le) refl

pub interface-takes : (s : Section) (place size : ℕ) (b : List ℕ) → 16 ≤ length b → length s.links < most_interfaces
    → interface_in s place size b
    ≡ rest_after (with_interface s (number_2 s.order b 8) (number_4 s.order b 12)) place size [] 16
interface-takes s place size b le few =
    rw (le-ltb (length b) 16 le, ne_eqb (length s.links) most_interfaces (λ e. omega (arith, e, few))) refl

pub section-takes : (o : Order) (place size : ℕ) (b : List ℕ) → number_4 o b 4 ≡ size → size % 4 ≡ 0 → 28 ≤ size → 16 ≤ length b
    → number_2 o b 12 ≡ 1 → section_in o place b ≡ rest_after (empty_section o) place size [] 16
section-takes o place size b e four least le major =
    let left : size - 20 ≡ size - 4 - 16 = omega arith in
    rw (e, four, le-ltb size 28 least, le-ltb (length b) 16 le, major, left) refl

-- ---- the packet of a block

-- so many octets of a block are taken with its packet
abbrev pub taken : ℕ → Captured → ℕ
taken start (Packet link original octets) = start + length octets
taken start (Bad why) = start

none-past : (seen : List Interface) (interface : ℕ) → slice_get seen interface ≡ None → length seen ≤ interface
none-past [] interface e = omega arith
none-past (i ∷ more) zero e = cc
none-past (i ∷ more) (suc n) e = omega (arith, none-past more n e)

-- a packet of this content has its octets, or lacks some, from that place of a block on
abbrev pub HasContent : ℕ → ℕ → List ℕ → Content → Type 0
HasContent start size b (Padded octets padding options) =
    (length octets ≤ size - 4 - start) × (start + length octets ≤ length b) × (take (length octets) (drop start b) ≡ octets)
HasContent start size b (Lacking captured octets) = size - 4 - start < captured

no-interface : (s : Section) (place size start interface captured original : ℕ) (b : List ℕ) → length s.links ≤ interface
    → packet_in s place size start interface captured original b ≡ rest_after s place size (Bad NoInterface ∷ []) start
no-interface s place size start interface captured original b past = rw (le-leb (length s.links) interface past) refl

packet-lacking : (s : Section) (place size start interface captured original : ℕ) (b : List ℕ) → interface < length s.links
    → size - 4 - start < captured
    → packet_in s place size start interface captured original b ≡ rest_after s place size (Bad BadLength ∷ []) start
packet-lacking s place size start interface captured original b there few =
    rw (lt-leb (length s.links) interface there, lt-ltb (size - 4 - start) captured few) refl

packet-long : (s : Section) (place size start interface captured original : ℕ) (b : List ℕ) → interface < length s.links
    → captured ≤ size - 4 - start → most < captured
    → packet_in s place size start interface captured original b ≡ rest_after s place size (Bad TooLong ∷ []) start
packet-long s place size start interface captured original b there le long =
    rw (lt-leb (length s.links) interface there, le-ltb (size - 4 - start) captured le, lt-ltb most captured long) refl

packet-whole : (s : Section) (place size start interface captured original link : ℕ) (octets b : List ℕ) → interface < length s.links
    → captured ≤ size - 4 - start → captured ≤ most → start + captured ≤ length b → slice_index_or s.links interface 0 ≡ link
    → slice_range b start (start + captured) ≡ octets
    → packet_in s place size start interface captured original b
    ≡ rest_after s place size (Packet link original octets ∷ []) (start + captured)
packet-whole s place size start interface captured original link octets b there le few enough is are =
    rw (
      lt-leb (length s.links) interface there,
      le-ltb (size - 4 - start) captured le,
      le-ltb most captured few,
      le-ltb (length b) (start + captured) enough,
      is,
      are,
    ) refl

long-is : (i : Interface) (original : ℕ) (octets padding options : List ℕ) → most < length octets
    → packet_of (Some i) original (Padded octets padding options) ≡ Bad TooLong
long-is i original octets padding options long = rw (lt-ltb 262144 (length octets) long) refl

few-is : (i : Interface) (original : ℕ) (octets padding options : List ℕ) → length octets ≤ most
    → packet_of (Some i) original (Padded octets padding options) ≡ Packet i.link original octets
few-is i original octets padding options few = rw (le-ltb 262144 (length octets) few) refl

-- the packet, and what is taken with it
abbrev pub Gives : Section → ℕ → ℕ → ℕ → Captured → Step → Type 0
Gives s place size start p step = step ≡ rest_after s place size (p ∷ []) (taken start p)

pub packet-takes : (o : Order) (seen : List Interface) (place size start interface original : ℕ) (b : List ℕ) (content : Content)
    → HasContent start size b content
    → Gives (section_of o seen) place size start (packet_of (slice_get seen interface) original content)
    (packet_in (section_of o seen) place size start interface (captured_length content) original b)
packet-takes o seen place size start interface original b content has = by (slice_get seen interface) refl content has where
  s : Section
  s = section_of o seen

  by : (found : Option Interface) → slice_get seen interface ≡ found → (c : Content) → HasContent start size b c
      → Gives s place size start (packet_of found original c) (packet_in s place size start interface (captured_length c) original b)
  by None e c h =
      no-interface s place size start interface (captured_length c) original b
      (omega (arith, none-past seen interface e, length-map seen link_of))
  by (Some i) e (Lacking captured octets) h =
      packet-lacking s place size start interface captured original b
      (omega (arith, slice_get_within seen interface i e, length-map seen link_of)) h
  by (Some i) e (Padded octets padding options) h =
      let there : interface < length s.links = omega (arith, slice_get_within seen interface i e, length-map seen link_of) in
      let link : slice_get s.links interface ≡ Some i.link = slice_get-map link_of seen interface ∙ ap (option_map link_of) e in
      let count : start + length octets - start ≡ length octets = omega arith in
      ⊎_elim
      (λ (long : most < length octets).
      subst (λ (p : Captured). Gives s place size start p (packet_in s place size start interface (length octets) original b))
      (sym (long-is i original octets padding options long))
      (packet-long s place size start interface (length octets) original b there h.0 long))
      (λ (few : length octets ≤ most).
      subst (λ (p : Captured). Gives s place size start p (packet_in s place size start interface (length octets) original b))
      (sym (few-is i original octets padding options few))
      (packet-whole s place size start interface (length octets) original i.link octets b there h.0 few h.1
      (get_or_from_slice_get s.links interface i.link 0 link)
      (ap (λ (n : ℕ). take n (drop start b)) count ∙ h.2)))
      (cases_lt most (length octets))

-- what is taken with a packet is within its block
pub taken-within : (start original : ℕ) (found : Option Interface) (content : Content)
    → taken start (packet_of found original content) ≤ start + length (content_octets content)
taken-within start original None content = omega arith
taken-within start original (Some i) (Lacking captured octets) = omega arith
taken-within start original (Some i) (Padded octets padding options) =
    ⊎_elim
    (λ (long : most < length octets).
    subst (λ (p : Captured). taken start p ≤ start + length (octets ++ padding ++ options))
    (sym (long-is i original octets padding options long)) (omega arith))
    (λ (few : length octets ≤ most).
    subst (λ (p : Captured). taken start p ≤ start + length (octets ++ padding ++ options))
    (sym (few-is i original octets padding options few))
    (omega (arith, length-append (octets ++ padding) options, length-append octets padding)))
    (cases_lt most (length octets))

pub enhanced-takes : (o : Order) (seen : List Interface) (place size interface original : ℕ) (b : List ℕ) (content : Content)
    → 28 ≤ length b → number_4 o b 20 ≡ captured_length content → number_4 o b 24 ≡ original → HasContent 28 size b content
    → Gives (section_of o seen) place size 28 (packet_of (slice_get seen interface) original content)
    (enhanced_in (section_of o seen) place size interface b)
enhanced-takes o seen place size interface original b content le captured is has =
    rw (le-ltb (length b) 28 le, captured, is) (packet-takes o seen place size 28 interface original b content has)

simple-is : (seen : List Interface) (original : ℕ) → simple_captured (first_snap seen) original ≡ simple_length seen original
simple-is [] original = refl
simple-is (i ∷ more) original = refl

pub simple-takes : (o : Order) (seen : List Interface) (place size original : ℕ) (b : List ℕ) (content : Content)
    → captured_length content ≡ simple_length seen original → number_4 o b 8 ≡ original → HasContent 12 size b content
    → Gives (section_of o seen) place size 12 (packet_of (slice_get seen 0) original content)
    (simple_in (section_of o seen) place size b)
simple-takes o seen place size original b content captured is has =
    rw (is, simple-is seen original, sym captured) (packet-takes o seen place size 12 0 original b content has)
