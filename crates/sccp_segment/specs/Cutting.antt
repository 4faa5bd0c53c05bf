-- How data is cut into segments (ITU-T Q.714 section 4.1).
use Rattle.std.specs.Prelude.{ℕ, ◌*◌, ◌==◌, nat_lt, max, Bool, true, false, if◌then◌else◌, List, [], ◌∷◌, length, take, drop, map, Result}
use Rattle.std.specs.Prelude.{Ok, Err}
use Rattle.std.specs.Int.{div_ceil}
use Rattle.std.specs.List.{range_with_len}
use Rattle.sccp_base.specs.Answers.{Answers}
use Rattle.sccp_segment.specs.declared.segment.Segment.{Segment}
use Rattle.sccp_segment.specs.declared.split_data_fault.SplitDataFault.{SplitDataFault}
use Rattle.sccp_segment.specs.declared.split_data_fault.SplitDataFault.TheVariants.{ZeroSize, TooMany, OutOfMemory}

-- the number of pieces of `size` octets each: one at least
abbrev pub piece_count : List ℕ → ℕ → ℕ
piece_count payload size = max 1 (div_ceil (length payload) size)

-- piece number i, counted from 0
abbrev pub piece : List ℕ → ℕ → ℕ → List ℕ
piece payload size i = take size (drop (i * size) payload)

-- the pieces, each of `size` octets and the last one shorter if need be; data without octets is one empty piece
abbrev pub pieces : List ℕ → ℕ → List (List ℕ)
pieces payload size = map (piece payload size) (range_with_len 0 (piece_count payload size))

-- each piece as a segment, which says how many follow it; the first one says that it is the first
abbrev pub segments : Bool → Bool → ℕ → List (List ℕ) → List Segment
segments first in_sequence reference [] = []
segments first in_sequence reference (p ∷ ps) =
    record { first = first; in_sequence = in_sequence; remaining = length ps; reference = reference; payload = p }
    ∷ segments false in_sequence reference ps

-- the segments of data; a fault if the size is 0, or else if there would be more than 16
abbrev pub split_data_of : List ℕ → ℕ → ℕ → Bool → Result (List Segment) SplitDataFault
split_data_of payload size reference in_sequence =
    if size == 0 then Err ZeroSize
    else if nat_lt 16 (piece_count payload size) then Err TooMany
    else Ok (segments true in_sequence reference (pieces payload size))

-- want of memory is the one fault that any call may give
abbrev pub is_memory : SplitDataFault → Bool
is_memory OutOfMemory = true
is_memory ZeroSize = false
is_memory TooMany = false

abbrev pub Gives : {X Y : Type 0} → (X → Y) → Result X SplitDataFault → Result Y SplitDataFault → Type 0
Gives view result expected = Answers is_memory view result expected
