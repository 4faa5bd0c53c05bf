-- If a segment can be written, so can one with no more data.
use Rattle.std.specs.Prelude.{◌≡◌, ℕ, ◌+◌, ◌-◌, ◌*◌, ◌<◌, ◌≤◌, ◌==◌, nat_le, nat_lt, Bool, true, false, cond, List, [], ◌∷◌, length, map}
use Rattle.std.specs.Prelude.{filter, not, drop, Option, Some, None, Result, Ok, Err, refl}
use Rattle.std.specs.List.{All, list_all, range_with_len}
use Rattle.std.proofs.Common.{zero, suc, sym, ap, subst, arith, get_or, length-take, length-drop}
use Rattle.std.proofs.lemmas.Bool.{leb-true, le-leb}
use Rattle.sccp_base.proofs.AllOk.{guard_ok}
use Rattle.sccp_address.specs.declared.address.Address.{Address}
use Rattle.sccp_address.specs.Written.{written}
use Rattle.sccp_layout.specs.Parameter.{Parameter}
use Rattle.sccp_layout.specs.Table.{segmentation}
use Rattle.sccp_layout.proofs.Tests.{first_failed, none_failed, fault, none_of_both}
use Rattle.sccp_message.specs.declared.message.Message.{Message}
use Rattle.sccp_message.specs.declared.message.Message.TheVariants.{Ludt}
use Rattle.sccp_message.specs.Fields.{param, reads_if}
use Rattle.sccp_message.specs.Written.{Sound, Writable, message_octets}
use Rattle.sccp_segment.specs.declared.segment.Segment.{Segment}
use Rattle.sccp_segment.specs.declared.split_data_fault.SplitDataFault.{SplitDataFault}
use Rattle.sccp_segment.specs.declared.split_data_fault.SplitDataFault.TheVariants.{ZeroSize, TooMany}
use Rattle.sccp_segment.specs.Cutting.{piece, piece_count, pieces, segments, split_data_of}
use Rattle.long_segments.specs.Sending.{segment_message, FirstTells}

-- ---- tests of lengths and pointers, one after the other

pub passed : (b : Bool) (x : Option ℕ) (i : ℕ) → cond b x (Some i) ≡ None → (b ≡ true) × (x ≡ None)
passed true x i e = (refl, e)
passed false x i e = absurd (cc)

all_passed : (a b c d : Bool) → first_failed a b c d ≡ None → (a ≡ true) × (b ≡ true) × (c ≡ true) × (d ≡ true)
unfolding first_failed
all_passed a b c d e =
    let p = passed a (cond b (cond c (cond d None (Some 3)) (Some 2)) (Some 1)) 0 e in
    let q = passed b (cond c (cond d None (Some 3)) (Some 2)) 1 p.1 in
    let r = passed c (cond d None (Some 3)) 2 q.1 in
    let s = passed d None 3 r.1 in
    (p.0, q.0, r.0, s.0)

neither : (x y : Option ℕ) → fault x y ≡ None → (x ≡ None) × (y ≡ None)
unfolding fault
neither None None e = (refl, refl)
neither None (Some y) e = absurd (cc)
neither (Some x) y e = absurd (cc)

no_more : (m n limit : ℕ) → m ≤ n → nat_le n limit ≡ true → nat_le m limit ≡ true
no_more m n limit le e = le-leb m limit (omega (arith, le, leb-true n limit e))

-- the tests of a segment: the lengths of its parts, and its pointers, the last of which is to the parameters
lengths : List ℕ → List ℕ → List ℕ → List Parameter → Option ℕ
lengths called calling payload params = first_failed (nat_le (length called) 255) (nat_le (length calling) 255)
    (nat_le (length payload) 255) (list_all (λ p. nat_le (length p.octets) 255) params)

abbrev behind : List ℕ → List ℕ → ℕ
behind called calling = 7 + length (length called ∷ called) + length (length calling ∷ calling)

pointers : List ℕ → List ℕ → List ℕ → Option ℕ
pointers called calling payload =
    first_failed true (nat_le (7 + length (length called ∷ called) - 4) 255) (nat_le (behind called calling - 5) 255)
    (nat_le (behind called calling + length (length payload ∷ payload) - 6) 255)

unfoldable pub others : List Parameter → List Parameter
others params = filter (λ p. not (p.name == segmentation)) params

fault_is : (class hops : ℕ) (called calling : Address) (params : List Parameter) (s : Segment)
    → Writable (segment_message class hops called calling params s)
    ≡ (fault (lengths (written called) (written calling) s.payload (others params)) (pointers (written called) (written calling) s.payload)
    ≡ None)
unfolding fault first_failed lengths pointers others
fault_is class hops called calling params s = refl

shorter_lengths : (called calling payload other : List ℕ) (params : List Parameter) → length other ≤ length payload
    → lengths called calling payload params ≡ None → lengths called calling other params ≡ None
unfolding lengths
shorter_lengths called calling payload other params le e =
    let all = all_passed _ _ _ _ e in
    none_failed _ _ _ _ all.0 all.1 (no_more (length other) (length payload) 255 le all.2) all.3

shorter_pointers : (called calling payload other : List ℕ) → length other ≤ length payload → pointers called calling payload ≡ None
    → pointers called calling other ≡ None
unfolding pointers
shorter_pointers called calling payload other le e =
    let all = all_passed _ _ _ _ e in
    let nearer : behind called calling + length (length other ∷ other) - 6 ≤ behind called calling + length (length payload ∷ payload) - 6 =
    omega (arith, le) in
    none_failed _ _ _ _ all.0 all.1 all.2 (no_more _ _ 255 nearer all.3)

pub shorter_written : (class hops : ℕ) (called calling : Address) (params : List Parameter) (s t : Segment)
    → length t.payload ≤ length s.payload → Writable (segment_message class hops called calling params s)
    → Writable (segment_message class hops called calling params t)
shorter_written class hops called calling params s t le w =
    let both = neither _ _ (subst (λ (X : Type 0). X) (fault_is class hops called calling params s) w) in
    subst (λ (X : Type 0). X) (sym (fault_is class hops called calling params t))
    (none_of_both _ _
    (shorter_lengths (written called) (written calling) s.payload t.payload (others params) le both.0)
    (shorter_pointers (written called) (written calling) s.payload t.payload le both.1))

-- ---- the pieces of data are no longer than the first one

piece_length : (payload : List ℕ) (size i : ℕ) → length (piece payload size i) ≤ length (piece payload size 0)
piece_length payload size i =
    omega (
      arith,
      length-take size (drop (i * size) payload),
      length-drop (i * size) payload,
      length-take size
          (drop (0 * size) payload),
      length-drop (0 * size) payload,
    )

all_written : (class hops : ℕ) (called calling : Address) (params : List Parameter) (first : Segment) (in_sequence : Bool) (reference : ℕ)
    (payload : List ℕ) (size a n : ℕ) → first.payload ≡ piece payload size 0
    → Writable (segment_message class hops called calling params first)
    → All Writable (map (segment_message class hops called calling params)
    (segments false in_sequence reference (map (piece payload size) (range_with_len a n))))
all_written class hops called calling params first in_sequence reference payload size a zero is w k d lt = absurd (omega arith)
all_written class hops called calling params first in_sequence reference payload size a (suc n) is w zero d lt =
    let s : Segment = record {
      first = false;
      in_sequence = in_sequence;
      remaining = length
          (map (piece payload size) (range_with_len (a + 1) n));
      reference = reference;
      payload = piece payload size a;
    } in
    shorter_written class hops called calling params first s
    (subst (λ (octets : List ℕ). length (piece payload size a) ≤ length octets) (sym is) (piece_length payload size a)) w
all_written class hops called calling params first in_sequence reference payload size a (suc n) is w (suc k) d lt =
    all_written class hops called calling params first in_sequence reference payload size (a + 1) n is w k d (omega (arith, lt))

pub first_tells : (class hops : ℕ) (called calling : Address) (params : List Parameter) (in_sequence : Bool) (reference : ℕ)
    (payload : List ℕ) (size : ℕ)
    → FirstTells (map (segment_message class hops called calling params) (segments true in_sequence reference (pieces payload size)))
first_tells class hops called calling params in_sequence reference payload size = by_count (piece_count payload size)
  where
    by_count : (n : ℕ) → FirstTells (map (segment_message class hops called calling params)
        (segments true in_sequence reference (map (piece payload size) (range_with_len 0 n))))
    by_count zero = tt
    by_count (suc n) = λ w.
        all_written class hops called calling params
        (record {
          first = true;
          in_sequence = in_sequence;
          remaining = length
              (map (piece payload size) (range_with_len 1 n));
          reference = reference;
          payload = piece payload size 0;
        })
        in_sequence reference payload size 1 n refl w

abbrev was_cut : List Segment → Result (List Segment) SplitDataFault
was_cut list = Ok list

-- what data was cut into
pub cut_is : (payload : List ℕ) (size reference : ℕ) (in_sequence : Bool) (list : List Segment)
    → split_data_of payload size reference in_sequence ≡ Ok list → list ≡ segments true in_sequence reference (pieces payload size)
cut_is payload size reference in_sequence list e =
    let some = guard_ok (size == 0) ZeroSize (cond (nat_lt 16 (piece_count payload size)) (Err TooMany)
    (Ok (segments true in_sequence reference (pieces payload size)))) list e in
    let few = guard_ok (nat_lt 16 (piece_count payload size)) TooMany
    (Ok (segments true in_sequence reference (pieces payload size))) list some.1 in
    same few.1
  where
    same : was_cut (segments true in_sequence reference (pieces payload size)) ≡ was_cut list
        → list ≡ segments true in_sequence reference (pieces payload size)
    same h = cc

-- the segmentation of a sound long message reads
pub sound_reads : (class hops : ℕ) (called calling : Address) (payload : List ℕ) (params : List Parameter)
    → Sound (Ludt class hops called calling payload params) → reads_if segmentation (param params segmentation) ≡ true
sound_reads class hops called calling payload params sound = (passed _ _ _ sound).0

-- ---- lists of segments as messages

pub at_map : (f : Segment → Message) (xs : List Segment) (k : ℕ) (d : Segment) → k < length xs → All Writable (map f xs)
    → Writable (f (get_or xs k d))
at_map f [] k d lt all = absurd (omega arith)
at_map f (x ∷ xs) zero d lt all = all 0 (f d) (omega arith)
at_map f (x ∷ xs) (suc k) d lt all = at_map f xs k d (omega arith) (λ i e l. all (suc i) e (omega arith))

pub map_twice : (f : Segment → Message) (xs : List Segment) → map message_octets (map f xs) ≡ map (λ s. message_octets (f s)) xs
map_twice f [] = refl
map_twice f (x ∷ xs) = ap (λ (l : List (List ℕ)). message_octets (f x) ∷ l) (map_twice f xs)
