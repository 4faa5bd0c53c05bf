-- Which lists of segments end in a whole message, and what a pool was given of a key.
use Rattle.std.specs.Prelude.{◌≡◌, ℕ, ◌+◌, ◌==◌, Bool, false, not, ◌&&◌, if◌then◌else◌, is_err, List, [], ◌∷◌, ◌++◌, Option, Some, None}
use Rattle.std.specs.Prelude.{Result, Ok, map, slice_get, ◌⊎◌, Err}
use Rattle.std.specs.List.{flat_map, last_or, list_any}
use Rattle.sccp_segment.specs.declared.key.Key.{Key}
use Rattle.sccp_segment.specs.declared.segment.Segment.{Segment}
use Rattle.sccp_segment.specs.declared.arrival.Arrival.{Arrival}
use Rattle.sccp_segment.specs.declared.run.Run.{Run}
use Rattle.sccp_segment.specs.declared.taken.Taken.{Taken}
use Rattle.sccp_segment.specs.declared.taken.Taken.TheVariants.{Whole}
use Rattle.sccp_segment.specs.declared.pool_fault.PoolFault.{PoolFault}
use Rattle.sccp_segment.specs.declared.pool_fault.PoolFault.TheVariants.{Full}
use Rattle.sccp_segment.specs.Keys.{same_key}
use Rattle.sccp_segment.specs.Pooling.{took}

abbrev pub is_first : Segment → Bool
is_first s = s.first

-- the ending of a list that begins with its last first segment; nothing if there is no first segment
abbrev pub last_message : List Segment → List Segment
last_message [] = []
last_message (s ∷ later) = if s.first && not (list_any is_first later) then s ∷ later else last_message later

-- the remaining numbers fall by one at each segment, to 0 at the last
abbrev pub falls_to_zero : List Segment → Bool
falls_to_zero [] = false
falls_to_zero (s ∷ []) = s.remaining == 0
falls_to_zero (s ∷ t ∷ later) = (t.remaining + 1 == s.remaining) && falls_to_zero (t ∷ later)

-- the data of segments, one after the other
abbrev pub data_of : List Segment → List ℕ
data_of l = flat_map (λ s. s.payload) l

-- the data of the message that a list of segments ends in, if all its segments arrived in step
abbrev pub whole : List Segment → Option (List ℕ)
whole l = if falls_to_zero (last_message l) then Some (data_of (last_message l)) else None

-- ---- what a pool is given

-- the answer to an arrival, and the runs that it leaves
abbrev pub answer_to : List Run → Arrival → Result Taken PoolFault
answer_to runs a = (took runs a.key a.segment).answer

abbrev pub runs_after : List Run → Arrival → List Run
runs_after runs a = (took runs a.key a.segment).runs

-- the runs after all arrivals of a list
abbrev pub pooled : List Run → List Arrival → List Run
pooled runs [] = runs
pooled runs (a ∷ rest) = pooled (runs_after runs a) rest

-- an arrival is refused by a full pool
abbrev pub is_refused : List Run → Arrival → Bool
is_refused runs a = is_err (answer_to runs a)

-- a key's segments that were not refused, of arrivals at these runs
abbrev pub heard_from : List Run → Key → List Arrival → List Segment
heard_from runs key [] = []
heard_from runs key (a ∷ rest) =
    (if same_key a.key key && not (is_refused runs a) then a.segment ∷ [] else []) ++ heard_from (runs_after runs a) key rest

-- the same of arrivals at an empty pool
abbrev pub heard : Key → List Arrival → List Segment
heard key arrivals = heard_from [] key arrivals

-- the arrivals of segments of one key, and the answers to arrivals one after the other
abbrev pub of_key : Key → List Segment → List Arrival
of_key key l = map (λ s. record { key = key; segment = s }) l

abbrev pub answers : List Run → List Arrival → List (Result Taken PoolFault)
answers runs [] = []
answers runs (a ∷ rest) = answer_to runs a ∷ answers (runs_after runs a) rest

-- the first answer is that the pool is full, or the last one is this data
abbrev pub IsRefusedOrWhole : List (Result Taken PoolFault) → List ℕ → Type 0
IsRefusedOrWhole given payload = (slice_get given 0 ≡ Some (Err Full)) ⊎ (last_or None given ≡ Some (Ok (Whole payload)))
