-- A pcap file that is put together gives its packets.
use Rattle.std.proofs.Common.{◌≡◌, ◌⊎◌, ℕ, ◌+◌, ◌-◌, ◌*◌, ◌%◌, ◌^◌, ◌<◌, ◌≤◌, true, List, [], ◌∷◌, ◌++◌, length}
use Rattle.std.proofs.Common.{map}
use Rattle.std.proofs.Common.{Option, Some, refl, sym, ◌∙◌, ap, inl, inr, ⊎_elim, append_assoc, length-append, arith}
use Rattle.std.specs.Prelude.{flat_map, slice_range}
use Rattle.std.specs.List.{AllByRecursion}
use Rattle.std.proofs.lemmas.Bool.{lt-ltb, le-ltb, cases_lt}
use Rattle.std.proofs.lemmas.List.{take_at, drop_at, append-nil}
use Rattle.std.proofs.lemmas.List.Elements.{recursion_from_All}
use Rattle.capture_file.specs.Numbers.{number_2, number_4}
use Rattle.capture_file.specs.Packets.{Captured, Packet, Told, with_front}
use Rattle.capture_file.specs.Units.{FileStart, Record, Takes, Needs, most, unit, kind_of}
use Rattle.capture_file.specs.Told.{ending, told, told_of}
use Rattle.capture_file.specs.Spelled.{octets_2, octets_4, Heading, IsHeading, heading_octets, Stamped, IsStamped, record_octets, packet_of}
use Rattle.capture_file.specs.Spelled.{IsPartial, IsPcap, cut_off}
use Rattle.capture_file.specs.declared.order.Order.{Order}
use Rattle.capture_file.specs.declared.order.Order.TheVariants.{Big, Little}
use Rattle.capture_file.specs.declared.file_kind.FileKind.TheVariants.{Pcap}
use Rattle.capture_file.specs.declared.file_fault.FileFault.{FileFault}
use Rattle.capture_file.specs.declared.file_fault.FileFault.TheVariants.{Cut}
use Rattle.capture_file.proofs.WordLemmas.{length-octets_4, number_4-written, number_4-after}
use Rattle.capture_file.proofs.ToldLemmas.{told-takes, told-needs}

-- ---- the heading

pub heading-by : (o : Order) (place link : ℕ) (b : List ℕ) → kind_of b ≡ Pcap o → 24 ≤ length b → number_2 o b 4 ≡ 2 → number_2 o b 6 ≡ 4
    → number_4 o b 20 % 65536 ≡ link → unit FileStart place b ≡ Takes [] 24 (Record o link)
unfolding unit
heading-by o place link b kind le major minor number =
    rw (le-ltb (length b) 4 (omega (arith, le)), kind, le-ltb (length b) 24 le, major, minor, number) refl

kind-written : (o : Order) (n : ℕ) (more : List ℕ) → (n ≡ 0xA1B2C3D4) ⊎ (n ≡ 0xA1B23C4D) → kind_of (octets_4 o n ++ more) ≡ Pcap o
kind-written Big n more (inl e) = ap (λ (k : ℕ). kind_of (octets_4 Big k ++ more)) e
kind-written Big n more (inr e) = ap (λ (k : ℕ). kind_of (octets_4 Big k ++ more)) e
kind-written Little n more (inl e) = ap (λ (k : ℕ). kind_of (octets_4 Little k ++ more)) e
kind-written Little n more (inr e) = ap (λ (k : ℕ). kind_of (octets_4 Little k ++ more)) e

-- the magic number, the version, and what follows them
abbrev front_octets : Order → ℕ → List ℕ → List ℕ
front_octets o magic more = octets_4 o magic ++ octets_2 o 2 ++ octets_2 o 4 ++ more

kind-front : (o : Order) (n : ℕ) (more : List ℕ) → (n ≡ 0xA1B2C3D4) ⊎ (n ≡ 0xA1B23C4D) → kind_of (front_octets o n more) ≡ Pcap o
kind-front Big n more times = kind-written Big n (octets_2 Big 2 ++ octets_2 Big 4 ++ more) times
kind-front Little n more times = kind-written Little n (octets_2 Little 2 ++ octets_2 Little 4 ++ more) times

major-front : (o : Order) (n : ℕ) (more : List ℕ) → number_2 o (front_octets o n more) 4 ≡ 2
major-front Big n more = refl
major-front Little n more = refl

minor-front : (o : Order) (n : ℕ) (more : List ℕ) → number_2 o (front_octets o n more) 6 ≡ 4
minor-front Big n more = refl
minor-front Little n more = refl

length-front : (o : Order) (n : ℕ) (more : List ℕ) → length (front_octets o n more) ≡ 8 + length more
length-front Big n more = omega arith
length-front Little n more = omega arith

-- a heading, and what follows it
with_heading : (h : Heading) (more : List ℕ)
    → heading_octets h ++ more ≡ front_octets h.order h.magic (h.unread ++ (octets_4 h.order (65536 * h.above + h.link) ++ more))
with_heading h more = by h.order where
  by : (o : Order) → octets_4 o h.magic ++ octets_2 o 2 ++ octets_2 o 4 ++ h.unread ++ octets_4 o (65536 * h.above + h.link) ++ more
      ≡ front_octets o h.magic (h.unread ++ (octets_4 o (65536 * h.above + h.link) ++ more))
  by Big = ap (front_octets Big h.magic) (append_assoc h.unread (octets_4 Big (65536 * h.above + h.link)) more)
  by Little = ap (front_octets Little h.magic) (append_assoc h.unread (octets_4 Little (65536 * h.above + h.link)) more)

-- the number after the octets that are not read
number-front : (o : Order) (n : ℕ) (unread more : List ℕ) → length unread ≡ 12
    → number_4 o (front_octets o n (unread ++ more)) 20 ≡ number_4 o more 0
number-front Big n unread more twelve =
    number_4-after Big (front_octets Big n unread) more 20 (omega (arith, twelve, length-front Big n unread))
number-front Little n unread more twelve =
    number_4-after Little (front_octets Little n unread) more 20 (omega (arith, twelve, length-front Little n unread))

low_bits : (above link : ℕ) → link < 2 ^ 16 → (65536 * above + link) % 65536 ≡ link
low_bits above link small = omega arith

pub length-heading : (h : Heading) → IsHeading h → length (heading_octets h) ≡ 24
length-heading h is =
    omega (
      arith,
      is.twelve,
      ap length (with_heading h []),
      length-append (heading_octets h) [],
      length-front h.order h.magic (h.unread ++ (octets_4 h.order (65536 * h.above + h.link) ++ [])),
      length-append h.unread (octets_4 h.order (65536 * h.above + h.link) ++ []),
      length-append (octets_4 h.order (65536 * h.above + h.link)) [],
      length-octets_4 h.order (65536 * h.above + h.link),
    )

heading-takes : (h : Heading) (more : List ℕ) → IsHeading h
    → unit FileStart 0 (heading_octets h ++ more) ≡ Takes [] 24 (Record h.order h.link)
heading-takes h more is =
    let word : List ℕ = octets_4 h.order (65536 * h.above + h.link) ++ more in
    let b : List ℕ = front_octets h.order h.magic (h.unread ++ word) in
    ap (unit FileStart 0) (with_heading h more)
    ∙ heading-by h.order 0 h.link b (kind-front h.order h.magic (h.unread ++ word) is.times)
    (omega (
      arith,
      is.twelve,
      length-front h.order h.magic (h.unread ++ word),
      length-append h.unread word,
      length-append (octets_4 h.order (65536 * h.above + h.link)) more,
      length-octets_4 h.order (65536 * h.above + h.link),
    ))
    (major-front h.order h.magic (h.unread ++ word)) (minor-front h.order h.magic (h.unread ++ word))
    (ap (λ (n : ℕ). n % 65536) (number-front h.order h.magic h.unread word is.twelve
    ∙ number_4-written h.order (65536 * h.above + h.link) more (omega (arith, is.bits, is.number)))
    ∙ low_bits h.above h.link is.number)

-- ---- a record

pub record-by : (o : Order) (link place captured original : ℕ) (octets b : List ℕ) → number_4 o b 8 ≡ captured → captured ≤ most
    → 16 + captured ≤ length b → number_4 o b 12 ≡ original → slice_range b 16 (16 + captured) ≡ octets
    → unit (Record o link) place b ≡ Takes (Packet link original octets ∷ []) (16 + captured) (Record o link)
unfolding unit
record-by o link place captured original octets b short few le long are =
    rw (
      le-ltb (length b) 16 (omega (arith, le)),
      short,
      le-ltb most captured few,
      le-ltb (length b) (16 + captured) le,
      long,
      are,
    ) refl

pub length-record : (o : Order) (p : Stamped) → length (record_octets o p) ≡ 16 + length p.octets
length-record Big p = omega arith
length-record Little p = omega arith

record-takes : (o : Order) (link place : ℕ) (p : Stamped) (more : List ℕ) → IsStamped p
    → unit (Record o link) place (record_octets o p ++ more)
    ≡ Takes (packet_of link p ∷ []) (16 + length p.octets) (Record o link)
record-takes Big link place p more is =
    record-by Big link place (length p.octets) p.original p.octets (record_octets Big p ++ more)
    (number_4-written Big (length p.octets) (octets_4 Big p.original ++ p.octets ++ more) (omega (arith, is.short))) is.short
    (omega (arith, length-append (record_octets Big p) more, length-record Big p))
    (number_4-written Big p.original (p.octets ++ more) is.number)
    (take_at p.octets more (16 + length p.octets - 16) (omega arith))
record-takes Little link place p more is =
    record-by Little link place (length p.octets) p.original p.octets (record_octets Little p ++ more)
    (number_4-written Little (length p.octets) (octets_4 Little p.original ++ p.octets ++ more) (omega (arith, is.short))) is.short
    (omega (arith, length-append (record_octets Little p) more, length-record Little p))
    (number_4-written Little p.original (p.octets ++ more) is.number)
    (take_at p.octets more (16 + length p.octets - 16) (omega arith))

pub short-needs : (o : Order) (link place : ℕ) (b : List ℕ) → length b < 16 → unit (Record o link) place b ≡ Needs
unfolding unit
short-needs o link place b few = rw (lt-ltb (length b) 16 few) refl

pub packet-needs : (o : Order) (link place : ℕ) (b : List ℕ) → 16 ≤ length b → number_4 o b 8 ≤ most → length b < 16 + number_4 o b 8
    → unit (Record o link) place b ≡ Needs
unfolding unit
packet-needs o link place b some short few =
    rw (le-ltb (length b) 16 some, le-ltb most (number_4 o b 8) short, lt-ltb (length b) (16 + number_4 o b 8) few) refl

partial-needs : (o : Order) (link place : ℕ) (rest : List ℕ) → IsPartial o rest → unit (Record o link) place rest ≡ Needs
partial-needs o link place rest (inl few) = short-needs o link place rest few
partial-needs o link place rest (inr p) =
    ⊎_elim (λ (few : length rest < 16). short-needs o link place rest few)
    (λ (some : 16 ≤ length rest). packet-needs o link place rest some p.1 p.0) (cases_lt (length rest) 16)

-- ---- all records, and the file

-- the file is cut off at a place, if something of it is left
abbrev cut : ℕ → List ℕ → Told
cut place rest = ending true (Record Big 0) place rest

ending-record : (o : Order) (link place : ℕ) (rest : List ℕ) → ending true (Record o link) place rest ≡ cut place rest
ending-record o link place [] = refl
ending-record o link place (x ∷ xs) = refl

records-told : (o : Order) (link place : ℕ) (records : List Stamped) (rest : List ℕ) → AllByRecursion IsStamped records → IsPartial o rest
    → told_of true (Record o link) place (flat_map (record_octets o) records ++ rest)
    ≡ with_front (map (packet_of link) records) (cut (place + length (flat_map (record_octets o) records)) rest)
records-told o link place [] rest each partial =
    told-needs true (Record o link) place rest (partial-needs o link place rest partial)
    ∙ ending-record o link place rest
    ∙ ap (λ (n : ℕ). cut n rest) (let same : place ≡ place + 0 = omega arith in same)
records-told o link place (p ∷ ps) rest each partial =
    let more : List ℕ = flat_map (record_octets o) ps ++ rest in
    let after : ℕ = place + (16 + length p.octets) in
    let end : after + length (flat_map (record_octets o) ps) ≡ place + length (record_octets o p ++ flat_map (record_octets o) ps) =
    omega (arith, length-append (record_octets o p) (flat_map (record_octets o) ps), length-record o p) in
    ap (told_of true (Record o link) place) (append_assoc (record_octets o p) (flat_map (record_octets o) ps) rest)
    ∙ told-takes true (Record o link) place (record_octets o p ++ more) (packet_of link p ∷ []) (16 + length p.octets) (Record o link)
    (record-takes o link place p more each.0)
    ∙ ap (λ (b : List ℕ). with_front (packet_of link p ∷ []) (told_of true (Record o link) after b))
    (drop_at (record_octets o p) more (16 + length p.octets) (length-record o p))
    ∙ ap (with_front (packet_of link p ∷ [])) (records-told o link after ps rest each.1 partial)
    ∙ ap (λ (n : ℕ). with_front (packet_of link p ∷ map (packet_of link) ps) (cut n rest)) end

abbrev told_with : List Captured → Option FileFault → Told
told_with packets fault = record { packets = packets; fault = fault }

cut-is : (packets : List Captured) (b rest : List ℕ) (place : ℕ) → place + length rest ≡ length b
    → with_front packets (cut place rest) ≡ record { packets = packets ++ []; fault = cut_off b rest }
cut-is packets b [] place e = refl
cut-is packets b (x ∷ xs) place e =
    ap (λ (n : ℕ). told_with (packets ++ []) (Some (Cut n)))
    (let same : place ≡ length b - length (x ∷ xs) = omega (arith, e) in same)

pub pcap-told : (b : List ℕ) (packets : List Captured) (rest : List ℕ) → IsPcap b packets rest
    → told true b ≡ record { packets = packets; fault = cut_off b rest }
pcap-told b packets rest is =
    let o : Order = is.heading.order in
    let link : ℕ = is.heading.link in
    let all : List ℕ = flat_map (record_octets o) is.records in
    let head : List ℕ = heading_octets is.heading in
    let twenty_four : length head ≡ 24 = length-heading is.heading is.is_heading in
    let whole : b ≡ head ++ (all ++ rest) = is.parts ∙ append_assoc head all rest in
    ap (told true) whole
    ∙ told-takes true FileStart 0 (head ++ (all ++ rest)) [] 24 (Record o link) (heading-takes is.heading (all ++ rest) is.is_heading)
    ∙ ap (told_of true (Record o link) 24) (drop_at head (all ++ rest) 24 twenty_four)
    ∙ records-told o link 24 is.records rest (recursion_from_All IsStamped is.records is.are_stamped) is.partial
    ∙ cut-is (map (packet_of link) is.records) b rest (24 + length all)
    (omega (arith, ap length whole, length-append head (all ++ rest), length-append all rest, twenty_four))
    ∙ ap (λ (packets : List Captured). told_with packets (cut_off b rest))
    (append-nil (map (packet_of link) is.records) ∙ sym is.packets_are)
