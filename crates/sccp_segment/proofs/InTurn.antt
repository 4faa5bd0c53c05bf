-- The segments of data, one after the other, at a pool.
use Rattle.std.specs.Prelude.{◌≡◌, ℕ, ◌+◌, ◌<◌, ◌≤◌, ◌==◌, nat_le, Bool, true, false, cond, is_err, List, [], ◌∷◌, ◌++◌, length, map}
use Rattle.std.specs.Prelude.{Option, Some, None, Ok, Err, refl}
use Rattle.std.specs.List.{last_or, range_with_len}
use Rattle.std.proofs.Common.{zero, suc, inl, inr, sym, ◌∙◌, ap, arith, append_assoc}
use Rattle.std.proofs.lemmas.Bool.{false≢true}
use Rattle.sccp_segment.specs.declared.key.Key.{Key}
use Rattle.sccp_segment.specs.declared.segment.Segment.{Segment}
use Rattle.sccp_segment.specs.declared.run.Run.{Run}
use Rattle.sccp_segment.specs.declared.arrival.Arrival.{Arrival}
use Rattle.sccp_segment.specs.declared.taken.Taken.TheVariants.{More, Whole, Dropped}
use Rattle.sccp_segment.specs.declared.taken.Why.TheVariants.{OutOfStep}
use Rattle.sccp_segment.specs.declared.pool_fault.PoolFault.TheVariants.{Full}
use Rattle.sccp_segment.specs.Cutting.{piece, piece_count, pieces, segments}
use Rattle.sccp_segment.specs.Pooling.{under_way, others, run, answering, started, first_taken, appended, next_taken, took}
use Rattle.sccp_segment.specs.Reassembly.{whole, pooled, heard, of_key, answers, IsRefusedOrWhole}
use Rattle.sccp_segment.proofs.Cut.{cut_is_whole_behind}
use Rattle.sccp_segment.proofs.Heard.{InStep, IsStep, is_step, all_in_step}

-- a segment that is not a first one is never refused
next_accepted : (runs : List Run) (key : Key) (s : Segment) (o : Option Run) → is_err (next_taken runs key s o).answer ≡ false
next_accepted runs key s None = refl
next_accepted runs key s (Some old) =
    elim (s.remaining + 1 == old.remaining) as (λ a. is_err
    (cond a (appended runs key s old) (answering (others runs key) (Ok (Dropped OutOfStep)))).answer ≡ false) [
      | true ↦ elim (s.remaining == 0) as (λ b. is_err (cond b (answering (others runs key) (Ok (Whole (old.payload ++ s.payload))))
          (answering (others runs key ++ run key s.remaining (old.payload ++ s.payload) ∷ []) (Ok More))).answer ≡ false)
          [ true ↦ refl | false ↦ refl ]
      | false ↦ refl
    ]

accepted : (runs : List Run) (key : Key) (s : Segment) → s.first ≡ false → is_err (took runs key s).answer ≡ false
accepted runs key s e = ap (λ b. is_err (cond b (first_taken runs key s) (next_taken runs key s (under_way runs key))).answer) e
    ∙ next_accepted runs key s (under_way runs key)

-- a refusal is that of a full pool
full_by_run : (runs : List Run) (key : Key) (s : Segment) (o : Option Run) → is_err (started runs key s o).answer ≡ true
    → (started runs key s o).answer ≡ Err Full
full_by_run runs key s None =
    elim (nat_le 64 (length runs)) as (λ b. is_err (cond b (answering runs (Err Full))
    (answering (others runs key ++ run key s.remaining s.payload ∷ []) (Ok More))).answer ≡ true
    → (cond b (answering runs (Err Full)) (answering (others runs key ++ run key s.remaining s.payload ∷ []) (Ok More))).answer
    ≡ Err Full) [
      | true ↦ λ e. refl
      | false ↦ λ e. absurd (false≢true e)
    ]
full_by_run runs key s (Some old) = λ e. absurd (false≢true e)

refused_full : (runs : List Run) (key : Key) (s : Segment) → is_err (took runs key s).answer ≡ true → (took runs key s).answer ≡ Err Full
refused_full runs key s =
    elim s.first as (λ b. is_err (cond b (first_taken runs key s) (next_taken runs key s (under_way runs key))).answer ≡ true
    → (cond b (first_taken runs key s) (next_taken runs key s (under_way runs key))).answer ≡ Err Full) [
      | true ↦
          elim (s.remaining == 0) as (λ b. is_err (cond b (answering (others runs key) (Ok (Whole s.payload)))
          (started runs key s (under_way runs key))).answer ≡ true
          → (cond b (answering (others runs key) (Ok (Whole s.payload))) (started runs key s (under_way runs key))).answer ≡ Err Full) [
            | true ↦ λ e. absurd (false≢true e)
            | false ↦ full_by_run runs key s (under_way runs key)
          ]
      | false ↦ λ e. absurd (false≢true (sym (next_accepted runs key s (under_way runs key)) ∙ e))
    ]

-- the segments after a first one, if what was heard and they end in a whole message
in_turn : (runs : List Run) (key : Key) (before : List Segment) (in_sequence : Bool) (reference : ℕ) (p : List ℕ) (ps : List (List ℕ))
    (x : List ℕ) → InStep (under_way runs key) before → whole (before ++ segments false in_sequence reference (p ∷ ps)) ≡ Some x
    → last_or None (answers runs (of_key key (segments false in_sequence reference (p ∷ ps)))) ≡ Some (Ok (Whole x))
in_turn runs key before in_sequence reference p [] x stands w =
    let s : Segment = record { first = false; in_sequence = in_sequence; remaining = 0; reference = reference; payload = p } in
    ap Some (((is_step runs key before s stands (accepted runs key s refl)).tells x).1 w)
in_turn runs key before in_sequence reference p (q ∷ ps) x stands w =
    let s : Segment = record {
      first = false;
      in_sequence = in_sequence;
      remaining = length
          (q ∷ ps);
      reference = reference;
      payload = p;
    } in
    let next : IsStep key (before ++ s ∷ []) (took runs key s) = is_step runs key before s stands (accepted runs key s refl) in
    in_turn (took runs key s).runs key (before ++ s ∷ []) in_sequence reference q ps x next.stands
    (ap whole (append_assoc before (s ∷ []) (segments false in_sequence reference (q ∷ ps))) ∙ w)

-- all segments, if the first one is not refused
from_first : (runs : List Run) (key : Key) (before : List Segment) (in_sequence : Bool) (reference : ℕ) (p : List ℕ) (ps : List (List ℕ))
    (x : List ℕ) → InStep (under_way runs key) before → whole (before ++ segments true in_sequence reference (p ∷ ps)) ≡ Some x
    → is_err (took runs key (record
    { first = true; in_sequence = in_sequence; remaining = length ps; reference = reference; payload = p })).answer ≡ false
    → last_or None (answers runs (of_key key (segments true in_sequence reference (p ∷ ps)))) ≡ Some (Ok (Whole x))
from_first runs key before in_sequence reference p [] x stands w taken =
    let s : Segment = record { first = true; in_sequence = in_sequence; remaining = 0; reference = reference; payload = p } in
    ap Some (((is_step runs key before s stands taken).tells x).1 w)
from_first runs key before in_sequence reference p (q ∷ ps) x stands w taken =
    let s : Segment = record { first = true; in_sequence = in_sequence; remaining = length (q ∷ ps); reference = reference; payload = p } in
    let next : IsStep key (before ++ s ∷ []) (took runs key s) = is_step runs key before s stands taken in
    in_turn (took runs key s).runs key (before ++ s ∷ []) in_sequence reference q ps x next.stands
    (ap whole (append_assoc before (s ∷ []) (segments false in_sequence reference (q ∷ ps))) ∙ w)

refused_or_whole : (runs : List Run) (key : Key) (before : List Segment) (in_sequence : Bool) (reference : ℕ) (p : List ℕ)
    (ps : List (List ℕ)) (x : List ℕ) → InStep (under_way runs key) before
    → whole (before ++ segments true in_sequence reference (p ∷ ps)) ≡ Some x
    → IsRefusedOrWhole (answers runs (of_key key (segments true in_sequence reference (p ∷ ps)))) x
refused_or_whole runs key before in_sequence reference p ps x stands w =
    let s : Segment = record { first = true; in_sequence = in_sequence; remaining = length ps; reference = reference; payload = p } in
    elim (is_err (took runs key s).answer) as (λ b. is_err (took runs key s).answer ≡ b
    → IsRefusedOrWhole (answers runs (of_key key (segments true in_sequence reference (p ∷ ps)))) x) [
      | true ↦ λ e. inl (ap Some (refused_full runs key s e))
      | false ↦ λ e. inr (from_first runs key before in_sequence reference p ps x stands w e)
    ] refl

pub come_whole : (arrivals : List Arrival) (key : Key) (payload : List ℕ) (size reference : ℕ) (in_sequence : Bool) → 0 < size
    → IsRefusedOrWhole (answers (pooled [] arrivals) (of_key key (segments true in_sequence reference (pieces payload size)))) payload
come_whole arrivals key payload size reference in_sequence some =
    by_count (piece_count payload size) (omega arith) (cut_is_whole_behind (heard key arrivals) payload size reference in_sequence some)
  where
    by_count : (n : ℕ) → 1 ≤ n
        → whole (heard key arrivals ++ segments true in_sequence reference (map (piece payload size) (range_with_len 0 n))) ≡ Some payload
        → IsRefusedOrWhole (answers (pooled [] arrivals)
        (of_key key (segments true in_sequence reference (map (piece payload size) (range_with_len 0 n))))) payload
    by_count zero lt w = absurd (omega arith)
    by_count (suc n) lt w = refused_or_whole (pooled [] arrivals) key (heard key arrivals) in_sequence reference (piece payload size 0)
        (map (piece payload size) (range_with_len 1 n)) payload (all_in_step [] key [] arrivals (inl refl)) w
