-- What is read of a pcap file without damage is what it was put together of.
use Rattle.std.proofs.Common.{◌≡◌, ◌⊎◌, ℕ, zero, suc, ◌+◌, ◌-◌, ◌*◌, ◌/◌, ◌%◌, ◌<◌, ◌≤◌, Bool, true, false, cond, List, [], ◌∷◌, ◌++◌}
use Rattle.std.proofs.Common.{length}
use Rattle.std.proofs.Common.{take, drop, map, refl, sym, ◌∙◌, ap, subst, inl, inr, ⊎_elim, append_assoc, arith}
use Rattle.std.specs.Prelude.{◌==◌, ◌&&◌, ◌||◌, flat_map, All, slice_range}
use Rattle.std.proofs.lemmas.Bool.{lt-ltb, le-ltb, cases_lt, cases_Bool, or_cases, and_parts, eqb-true}
use Rattle.std.proofs.lemmas.List.{length-drop, length-take-le, drop-drop, take-append-drop}
use Rattle.std.proofs.lemmas.List.Elements.{All-nil, All-cons}
use Rattle.capture_file.specs.Numbers.{number_2, number_4}
use Rattle.capture_file.specs.Packets.{Captured, Told, with_front}
use Rattle.capture_file.specs.Units.{FileStart, Record, Needs, Fails, most, unit, kind_of}
use Rattle.capture_file.specs.Told.{told, told_of}
use Rattle.capture_file.specs.Spelled.{octets_2, octets_4, AreOctets, Heading, heading_octets, Stamped, IsStamped, record_octets}
use Rattle.capture_file.specs.Spelled.{packet_of, IsPartial, IsPcap, IsUndamaged}
use Rattle.capture_file.specs.declared.order.Order.{Order}
use Rattle.capture_file.specs.declared.order.Order.TheVariants.{Big, Little}
use Rattle.capture_file.specs.declared.file_kind.FileKind.TheVariants.{Pcap, Pcapng, Unknown}
use Rattle.capture_file.specs.declared.file_fault.FileFault.TheVariants.{Damaged}
use Rattle.capture_file.specs.declared.file_fault.Damage.TheVariants.{Version, Length}
use Rattle.capture_file.proofs.WordLemmas.{AreOctets-drop, spelled_2, spelled_4, number_4-small}
use Rattle.capture_file.proofs.ToldLemmas.{told-takes, told-needs, told-fails}
use Rattle.capture_file.proofs.SpelledLemmas.{heading-by, record-by, short-needs, packet-needs}

-- ---- a record

long-fails : (o : Order) (link place : ℕ) (b : List ℕ) → 16 ≤ length b → most < number_4 o b 8
    → unit (Record o link) place b ≡ Fails (Damaged place Length)
unfolding unit
long-fails o link place b some long = rw (le-ltb (length b) 16 some, lt-ltb most (number_4 o b 8) long) refl

-- the record at the front of octets
abbrev first_record : Order → List ℕ → Stamped
first_record o b = record {
  seconds = number_4 o b 0;
  fraction = number_4 o b 4;
  original = number_4 o b 12;
  octets = slice_range b 16 (16 + number_4 o b 8);
}

length-octets : (o : Order) (b : List ℕ) → 16 + number_4 o b 8 ≤ length b → length (first_record o b).octets ≡ number_4 o b 8
length-octets o b le =
    length-take-le (16 + number_4 o b 8 - 16) (drop 16 b) (omega (arith, le, length-drop 16 b)) ∙ omega arith

first-spelled : (o : Order) (b : List ℕ) → AreOctets b → 16 + number_4 o b 8 ≤ length b
    → record_octets o (first_record o b) ++ drop (16 + number_4 o b 8) b ≡ b
first-spelled o b each le =
    let n : ℕ = number_4 o b 8 in
    let octets : List ℕ = slice_range b 16 (16 + n) in
    let after : List ℕ = drop (16 + n) b in
    let count : 16 + n - 16 ≡ n = omega arith in
    let last : octets ++ after ≡ drop 16 b =
    ap (λ (k : ℕ). take k (drop 16 b) ++ after) count ∙ ap (λ (l : List ℕ). take n (drop 16 b) ++ l) (sym (drop-drop n 16 b))
    ∙ take-append-drop n (drop 16 b) in
    let words : (w x y z : List ℕ) → w ++ x ++ y ++ z ++ octets ++ after ≡ w ++ (x ++ (y ++ (z ++ (octets ++ after)))) =
    λ w x y z.
    append_assoc (w ++ x ++ y ++ z) octets after ∙ append_assoc (w ++ x ++ y) z (octets ++ after)
    ∙ append_assoc (w ++ x) y (z ++ (octets ++ after)) ∙ append_assoc w x (y ++ (z ++ (octets ++ after))) in
    words (octets_4 o (number_4 o b 0)) (octets_4 o (number_4 o b 4)) (octets_4 o (length octets)) (octets_4 o (number_4 o b 12))
    ∙ ap (λ (k : ℕ). octets_4 o (number_4 o b 0) ++ (octets_4 o (number_4 o b 4) ++ (octets_4 o k
    ++ (octets_4 o (number_4 o b 12) ++ (octets ++ after))))) (length-octets o b le)
    ∙ ap (λ (l : List ℕ). octets_4 o (number_4 o b 0) ++ (octets_4 o (number_4 o b 4) ++ (octets_4 o n
    ++ (octets_4 o (number_4 o b 12) ++ l)))) last
    ∙ ap (λ (l : List ℕ). octets_4 o (number_4 o b 0) ++ (octets_4 o (number_4 o b 4) ++ (octets_4 o n ++ l)))
    (spelled_4 o b 12 each (omega (arith, le)))
    ∙ ap (λ (l : List ℕ). octets_4 o (number_4 o b 0) ++ (octets_4 o (number_4 o b 4) ++ l)) (spelled_4 o b 8 each (omega (arith, le)))
    ∙ ap (λ (l : List ℕ). octets_4 o (number_4 o b 0) ++ l) (spelled_4 o b 4 each (omega (arith, le)))
    ∙ spelled_4 o b 0 each (omega (arith, le))

-- ---- all records

-- octets are these records, and perhaps a part of one more
record AreRecords (o : Order) (link : ℕ) (b : List ℕ) (packets : List Captured) : Type 0 where
  records : List Stamped
  rest : List ℕ
  parts : b ≡ flat_map (record_octets o) records ++ rest
  are_stamped : All IsStamped records
  packets_are : packets ≡ map (packet_of link) records
  partial : IsPartial o rest

none : (o : Order) (link place : ℕ) (b : List ℕ) → IsPartial o b → unit (Record o link) place b ≡ Needs
    → AreRecords o link b (told_of true (Record o link) place b).packets
none o link place b partial e = record {
  records = [];
  rest = b;
  parts = refl;
  are_stamped = All-nil IsStamped;
  packets_are = ap (λ (t : Told). t.packets) (told-needs true (Record o link) place b e);
  partial = partial;
}

one_more : (o : Order) (link place : ℕ) (b : List ℕ) → AreOctets b → number_4 o b 8 ≤ most → 16 + number_4 o b 8 ≤ length b
    → AreRecords o link (drop (16 + number_4 o b 8) b)
    (told_of true (Record o link) (place + (16 + number_4 o b 8)) (drop (16 + number_4 o b 8) b)).packets
    → told_of true (Record o link) place b
    ≡ with_front (packet_of link (first_record o b) ∷ [])
    (told_of true (Record o link) (place + (16 + number_4 o b 8)) (drop (16 + number_4 o b 8) b))
    → AreRecords o link b (told_of true (Record o link) place b).packets
one_more o link place b each short le more e =
    let p : Stamped = first_record o b in
    record {
      records = p ∷ more.records;
      rest = more.rest;
      parts = sym (first-spelled o b each le) ∙ ap (λ (l : List ℕ). record_octets o p ++ l) more.parts
          ∙ sym (append_assoc (record_octets o p) (flat_map (record_octets o) more.records) more.rest);
      are_stamped = All-cons IsStamped p more.records
          (record { number = number_4-small o b 12 each; short = omega (arith, short, length-octets o b le) }) more.are_stamped;
      packets_are = ap (λ (t : Told). t.packets) e ∙ ap (λ (ps : List Captured). packet_of link p ∷ ps) more.packets_are;
      partial = more.partial;
    }

damaged : (o : Order) (link place : ℕ) (b : List ℕ) → 16 ≤ length b → most < number_4 o b 8
    → IsUndamaged (told_of true (Record o link) place b).fault → ⊥
damaged o link place b some long sound =
    subst (λ (t : Told). IsUndamaged t.fault)
    (told-fails true (Record o link) place b (Damaged place Length) (long-fails o link place b some long)) sound

one-told : (o : Order) (link place : ℕ) (b : List ℕ) → number_4 o b 8 ≤ most → 16 + number_4 o b 8 ≤ length b
    → told_of true (Record o link) place b
    ≡ with_front (packet_of link (first_record o b) ∷ [])
    (told_of true (Record o link) (place + (16 + number_4 o b 8)) (drop (16 + number_4 o b 8) b))
one-told o link place b short le =
    told-takes true (Record o link) place b (packet_of link (first_record o b) ∷ []) (16 + number_4 o b 8) (Record o link)
    (record-by o link place (number_4 o b 8) (number_4 o b 12) (slice_range b 16 (16 + number_4 o b 8)) b refl short le refl refl)

records-are : (most_octets : ℕ) (o : Order) (link place : ℕ) (b : List ℕ) → length b ≤ most_octets → AreOctets b
    → IsUndamaged (told_of true (Record o link) place b).fault
    → AreRecords o link b (told_of true (Record o link) place b).packets
records-are zero o link place b few each sound =
    none o link place b (inl (omega (arith, few))) (short-needs o link place b (omega (arith, few)))
records-are (suc n) o link place b few each sound =
    ⊎_elim (λ (less : length b < 16). none o link place b (inl less) (short-needs o link place b less))
    (λ (some : 16 ≤ length b). ⊎_elim (λ (long : most < number_4 o b 8). absurd (damaged o link place b some long sound))
    (λ (short : number_4 o b 8 ≤ most). ⊎_elim
    (λ (less : length b < 16 + number_4 o b 8). none o link place b (inr (less, short)) (packet-needs o link place b some short less))
    (λ (le : 16 + number_4 o b 8 ≤ length b). one_more o link place b each short le
    (records-are n o link (place + (16 + number_4 o b 8)) (drop (16 + number_4 o b 8) b)
    (omega (arith, few, length-drop (16 + number_4 o b 8) b)) (AreOctets-drop (16 + number_4 o b 8) b each)
    (subst (λ (t : Told). IsUndamaged t.fault) (one-told o link place b short le) sound)) (one-told o link place b short le))
    (cases_lt (length b) (16 + number_4 o b 8)))
    (cases_lt most (number_4 o b 8))) (cases_lt (length b) 16)

-- ---- the file

-- what the kind of a file says of its magic number
magic-is : (o : Order) (b : List ℕ) → kind_of b ≡ Pcap o → (number_4 o b 0 ≡ 0xA1B2C3D4) ⊎ (number_4 o b 0 ≡ 0xA1B23C4D)
magic-is o b = by ((number_4 Big b 0 == 0xA1B2C3D4) || (number_4 Big b 0 == 0xA1B23C4D))
    ((number_4 Little b 0 == 0xA1B2C3D4) || (number_4 Little b 0 == 0xA1B23C4D)) (number_4 Big b 0 == 0x0A0D0D0A) refl refl
  where
    one : (n : ℕ) → ((n == 0xA1B2C3D4) || (n == 0xA1B23C4D)) ≡ true → (n ≡ 0xA1B2C3D4) ⊎ (n ≡ 0xA1B23C4D)
    one n e =
        ⊎_elim (λ (f : (n == 0xA1B2C3D4) ≡ true). inl (eqb-true n 0xA1B2C3D4 f))
        (λ (f : (n == 0xA1B23C4D) ≡ true). inr (eqb-true n 0xA1B23C4D f)) (or_cases (n == 0xA1B2C3D4) (n == 0xA1B23C4D) e)

    by : (big little section : Bool) → ((number_4 Big b 0 == 0xA1B2C3D4) || (number_4 Big b 0 == 0xA1B23C4D)) ≡ big
        → ((number_4 Little b 0 == 0xA1B2C3D4) || (number_4 Little b 0 == 0xA1B23C4D)) ≡ little
        → cond big (Pcap Big) (cond little (Pcap Little) (cond section Pcapng Unknown)) ≡ Pcap o
        → (number_4 o b 0 ≡ 0xA1B2C3D4) ⊎ (number_4 o b 0 ≡ 0xA1B23C4D)
    by true little section e f k =
        let same : Big ≡ o = cc in
        subst (λ (order : Order). (number_4 order b 0 ≡ 0xA1B2C3D4) ⊎ (number_4 order b 0 ≡ 0xA1B23C4D)) same (one (number_4 Big b 0) e)
    by false true section e f k =
        let same : Little ≡ o = cc in
        subst (λ (order : Order). (number_4 order b 0 ≡ 0xA1B2C3D4) ⊎ (number_4 order b 0 ≡ 0xA1B23C4D)) same
        (one (number_4 Little b 0) f)
    by false false true e f k = absurd (cc)
    by false false false e f k = absurd (cc)

version-fails : (o : Order) (place : ℕ) (b : List ℕ) → kind_of b ≡ Pcap o → 24 ≤ length b
    → ((number_2 o b 4 == 2) && (number_2 o b 6 == 4)) ≡ false → unit FileStart place b ≡ Fails (Damaged place Version)
unfolding unit
version-fails o place b kind le other = rw (le-ltb (length b) 4 (omega (arith, le)), kind, le-ltb (length b) 24 le, other) refl

-- the heading at the front of octets
abbrev first_heading : Order → List ℕ → Heading
first_heading o b = record {
  order = o;
  magic = number_4 o b 0;
  unread = slice_range b 8 20;
  above = number_4 o b 20 / 65536;
  link = number_4 o b 20 % 65536;
}

heading-spelled : (o : Order) (b : List ℕ) → AreOctets b → 24 ≤ length b → number_2 o b 4 ≡ 2 → number_2 o b 6 ≡ 4
    → heading_octets (first_heading o b) ++ drop 24 b ≡ b
heading-spelled o b each le major minor =
    let n : ℕ = number_4 o b 20 in
    let whole : 65536 * (n / 65536) + n % 65536 ≡ n = omega arith in
    let unread : List ℕ = slice_range b 8 20 in
    let magic : List ℕ = octets_4 o (number_4 o b 0) in
    let words : (w x y u z : List ℕ) → w ++ x ++ y ++ u ++ z ++ drop 24 b ≡ w ++ (x ++ (y ++ (u ++ (z ++ drop 24 b)))) =
    λ w x y u z.
    append_assoc (w ++ x ++ y ++ u) z (drop 24 b) ∙ append_assoc (w ++ x ++ y) u (z ++ drop 24 b)
    ∙ append_assoc (w ++ x) y (u ++ (z ++ drop 24 b)) ∙ append_assoc w x (y ++ (u ++ (z ++ drop 24 b))) in
    words magic (octets_2 o 2) (octets_2 o 4) unread (octets_4 o (65536 * (n / 65536) + n % 65536))
    ∙ ap (λ (k : ℕ). magic ++ (octets_2 o 2 ++ (octets_2 o 4 ++ (unread ++ (octets_4 o k ++ drop 24 b))))) whole
    ∙ ap (λ (l : List ℕ). magic ++ (octets_2 o 2 ++ (octets_2 o 4 ++ (unread ++ l)))) (spelled_4 o b 20 each le ∙ sym (drop-drop 12 8 b))
    ∙ ap (λ (l : List ℕ). magic ++ (octets_2 o 2 ++ (octets_2 o 4 ++ l))) (take-append-drop 12 (drop 8 b))
    ∙ ap (λ (k : ℕ). magic ++ (octets_2 o 2 ++ (octets_2 o k ++ drop 8 b))) (sym minor)
    ∙ ap (λ (l : List ℕ). magic ++ (octets_2 o 2 ++ l)) (spelled_2 o b 6 each (omega (arith, le)))
    ∙ ap (λ (k : ℕ). magic ++ (octets_2 o k ++ drop 6 b)) (sym major)
    ∙ ap (λ (l : List ℕ). magic ++ l) (spelled_2 o b 4 each (omega (arith, le)))
    ∙ spelled_4 o b 0 each (omega (arith, le))

pub told-pcap : (o : Order) (b : List ℕ) → AreOctets b → kind_of b ≡ Pcap o → 24 ≤ length b → IsUndamaged (told true b).fault
    → (rest : List ℕ) × IsPcap b (told true b).packets rest
told-pcap o b each kind le sound =
    ⊎_elim (λ (e : ((number_2 o b 4 == 2) && (number_2 o b 6 == 4)) ≡ true). read e)
    (λ (e : ((number_2 o b 4 == 2) && (number_2 o b 6 == 4)) ≡ false).
    absurd (subst (λ (t : Told). IsUndamaged t.fault)
    (told-fails true FileStart 0 b (Damaged 0 Version) (version-fails o 0 b kind le e)) sound))
    (cases_Bool ((number_2 o b 4 == 2) && (number_2 o b 6 == 4)))
  where
    read : ((number_2 o b 4 == 2) && (number_2 o b 6 == 4)) ≡ true → (rest : List ℕ) × IsPcap b (told true b).packets rest
    read version =
        let v = and_parts (number_2 o b 4 == 2) (number_2 o b 6 == 4) version in
        let major : number_2 o b 4 ≡ 2 = eqb-true (number_2 o b 4) 2 v.0 in
        let minor : number_2 o b 6 ≡ 4 = eqb-true (number_2 o b 6) 4 v.1 in
        let h : Heading = first_heading o b in
        let e : told true b ≡ told_of true (Record o h.link) 24 (drop 24 b) =
        told-takes true FileStart 0 b [] 24 (Record o h.link) (heading-by o 0 h.link b kind le major minor refl) in
        let all = records-are (length b) o h.link 24 (drop 24 b) (omega (arith, length-drop 24 b)) (AreOctets-drop 24 b each)
        (subst (λ (t : Told). IsUndamaged t.fault) e sound) in (
          all.rest,
          record {
            heading = h;
            records = all.records;
            parts = sym (heading-spelled o b each le major minor) ∙ ap (λ (l : List ℕ). heading_octets h ++ l) all.parts
                ∙ sym (append_assoc (heading_octets h) (flat_map (record_octets o) all.records) all.rest);
            is_heading = record {
              times = magic-is o b kind;
              twelve = length-take-le 12 (drop 8 b) (omega (arith, le, length-drop 8 b));
              bits = omega (arith, number_4-small o b 20 each);
              number = omega arith;
            };
            are_stamped = all.are_stamped;
            packets_are = ap (λ (t : Told). t.packets) e ∙ all.packets_are;
            partial = all.partial;
          },
        )
