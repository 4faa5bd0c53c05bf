-- A segment is read again from its message.
use Rattle.std.specs.Prelude.{◌≡◌, ℕ, ◌+◌, ◌*◌, ◌/◌, ◌%◌, ◌<◌, ◌≤◌, ◌==◌, Bool, true, false, List, [], ◌∷◌, length, map, Option, Some, refl}
use Rattle.std.specs.List.{cons_option}
use Rattle.std.proofs.Common.{sym, ◌∙◌, ap, subst, arith}
use Rattle.std.proofs.lemmas.Bool.Decides.{Decides-eqb}
use Rattle.std.proofs.lemmas.List.FromFn.{length-map-range_with_len}
use Rattle.sccp_base.specs.Bits.{bit, bits}
use Rattle.sccp_address.specs.declared.address.Address.{Address}
use Rattle.sccp_address.specs.Written.{flag}
use Rattle.sccp_layout.specs.Parameter.{Parameter}
use Rattle.sccp_message.proofs.Writing.{reference_again}
use Rattle.sccp_segment.specs.declared.arrival.Arrival.{Arrival}
use Rattle.sccp_segment.specs.declared.segment.Segment.{Segment}
use Rattle.sccp_segment.specs.Segments.{arrival_of, segment_of, segmentation_octets}
use Rattle.sccp_segment.specs.Cutting.{piece, piece_count, pieces, segments}
use Rattle.sccp_segment.specs.Reassembly.{IsRefusedOrWhole, answers, of_key, pooled, whole}
use Rattle.sccp_segment.proofs.Cut.{cut_is_whole}
use Rattle.sccp_segment.proofs.InTurn.{come_whole}
use Rattle.long_segments.specs.Sending.{is_in_sequence, reference_of, segment_message, cut}
use Rattle.long_segments.specs.Carried.{arrivals_in, segment_in, segments_in}

-- ---- the first octet of the contents: two flags and a number of four bits

is_one : (n : ℕ) (b : Bool) → n ≡ flag b → (n == 1) ≡ b
is_one n true e = (Decides-eqb n 1).1 e
is_one n false e = rw e refl

first_again : (first in_sequence : Bool) (remaining : ℕ) → remaining < 16
    → bit (128 * flag first + 64 * flag in_sequence + remaining) 8 ≡ first
first_again first in_sequence remaining few = is_one _ first (number first in_sequence)
  where
    number : (f q : Bool) → (128 * flag f + 64 * flag q + remaining) / 128 % 2 ≡ flag f
    number true true = omega arith
    number true false = omega arith
    number false true = omega arith
    number false false = omega arith

sequence_again : (first in_sequence : Bool) (remaining : ℕ) → remaining < 16
    → bit (128 * flag first + 64 * flag in_sequence + remaining) 7 ≡ in_sequence
sequence_again first in_sequence remaining few = is_one _ in_sequence (number first in_sequence)
  where
    number : (f q : Bool) → (128 * flag f + 64 * flag q + remaining) / 64 % 2 ≡ flag q
    number true true = omega arith
    number true false = omega arith
    number false true = omega arith
    number false false = omega arith

remaining_again : (first in_sequence : Bool) (remaining : ℕ) → remaining < 16
    → bits (128 * flag first + 64 * flag in_sequence + remaining) 1 4 ≡ remaining
remaining_again true true remaining few = omega arith
remaining_again true false remaining few = omega arith
remaining_again false true remaining few = omega arith
remaining_again false false remaining few = omega arith

-- the contents say the segment
pub contents_again : (s : Segment) → s.remaining < 16 → segment_of (segmentation_octets s) s.payload ≡ s
contents_again s few =
    λ i. record {
      first = first_again s.first s.in_sequence s.remaining few i;
      in_sequence = sequence_again s.first s.in_sequence s.remaining few i;
      remaining = remaining_again s.first s.in_sequence s.remaining few i;
      reference = reference_again s.reference i;
      payload = s.payload;
    }

pub segment_again : (class hops : ℕ) (called calling : Address) (params : List Parameter) (s : Segment) → s.remaining < 16
    → segment_in (segment_message class hops called calling params s) ≡ Some s
segment_again class hops called calling params s few = ap Some (contents_again s few)

segments_again : (class hops : ℕ) (called calling : Address) (params : List Parameter) (first in_sequence : Bool) (reference : ℕ)
    (ps : List (List ℕ)) → length ps ≤ 16
    → segments_in (map (segment_message class hops called calling params) (segments first in_sequence reference ps))
    ≡ segments first in_sequence reference ps
segments_again class hops called calling params first in_sequence reference [] few = refl
segments_again class hops called calling params first in_sequence reference (p ∷ ps) few =
    let s : Segment = record { first = first; in_sequence = in_sequence; remaining = length ps; reference = reference; payload = p } in
    ap (λ (o : Option Segment). cons_option o (segments_in
    (map (segment_message class hops called calling params) (segments false in_sequence reference ps))))
    (segment_again class hops called calling params s (omega (arith, few)))
    ∙ ap (λ (l : List Segment). s ∷ l) (segments_again class hops called calling params false in_sequence reference ps (omega (arith, few)))

-- the segments carry the data
pub carries : (class hops : ℕ) (called calling : Address) (payload : List ℕ) (params : List Parameter) (size reference : ℕ) → 0 < size
    → piece_count payload size ≤ 16
    → whole (segments_in (map (segment_message class hops called calling params) (cut class payload params size reference))) ≡ Some payload
carries class hops called calling payload params size reference some few =
    ap whole (segments_again class hops called calling params true (is_in_sequence class) (reference_of params reference)
    (pieces payload size) (omega (arith, few, length-map-range_with_len (piece payload size) 0 (piece_count payload size))))
    ∙ cut_is_whole payload size (reference_of params reference) (is_in_sequence class) some

-- ---- the messages at a pool

arrival_again : (class hops : ℕ) (called calling : Address) (params : List Parameter) (s : Segment) → s.remaining < 16
    → arrival_of (segment_message class hops called calling params s)
    ≡ Some (record { key = record { calling = calling; reference = s.reference }; segment = s })
arrival_again class hops called calling params s few = λ i. Some
    (record { key = record { calling = calling; reference = reference_again s.reference i }; segment = contents_again s few i })

arrivals_again : (class hops : ℕ) (called calling : Address) (params : List Parameter) (first in_sequence : Bool) (reference : ℕ)
    (ps : List (List ℕ)) → length ps ≤ 16
    → arrivals_in (map (segment_message class hops called calling params) (segments first in_sequence reference ps))
    ≡ of_key (record { calling = calling; reference = reference }) (segments first in_sequence reference ps)
arrivals_again class hops called calling params first in_sequence reference [] few = refl
arrivals_again class hops called calling params first in_sequence reference (p ∷ ps) few =
    let s : Segment = record { first = first; in_sequence = in_sequence; remaining = length ps; reference = reference; payload = p } in
    ap (λ (o : Option Arrival). cons_option o (arrivals_in
    (map (segment_message class hops called calling params) (segments false in_sequence reference ps))))
    (arrival_again class hops called calling params s (omega (arith, few)))
    ∙ ap (λ (l : List Arrival). record { key = record { calling = calling; reference = reference }; segment = s } ∷ l)
    (arrivals_again class hops called calling params false in_sequence reference ps (omega (arith, few)))

pub pool_answers : (arrivals : List Arrival) (class hops : ℕ) (called calling : Address) (payload : List ℕ) (params : List Parameter)
    (size reference : ℕ) → 0 < size → piece_count payload size ≤ 16
    → IsRefusedOrWhole (answers (pooled [] arrivals) (arrivals_in
    (map (segment_message class hops called calling params) (cut class payload params size reference)))) payload
pool_answers arrivals class hops called calling payload params size reference some few =
    let is = arrivals_again class hops called calling params true (is_in_sequence class) (reference_of params reference)
    (pieces payload size) (omega (arith, few, length-map-range_with_len (piece payload size) 0 (piece_count payload size))) in
    subst (λ (l : List Arrival). IsRefusedOrWhole (answers (pooled [] arrivals) l) payload) (sym is)
    (come_whole arrivals (record { calling = calling; reference = reference_of params reference }) payload size
    (reference_of params reference) (is_in_sequence class) some)
