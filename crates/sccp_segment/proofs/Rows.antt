-- Worked segments: five octets in pieces of two, and a pool that takes them.
use Rattle.std.specs.Prelude.{◌≡◌, ℕ, Bool, true, false, List, [], ◌∷◌, ◌++◌, map, Some, None, Ok, Err, refl}
use Rattle.std.specs.List.{range_with_len}
use Rattle.sccp_address.specs.declared.address.Address.{Address}
use Rattle.sccp_address.specs.declared.address.Title.TheVariants.{Absent}
use Rattle.sccp_segment.specs.declared.key.Key.{Key}
use Rattle.sccp_segment.specs.declared.segment.Segment.{Segment}
use Rattle.sccp_segment.specs.declared.arrival.Arrival.{Arrival}
use Rattle.sccp_segment.specs.declared.run.Run.{Run}
use Rattle.sccp_segment.specs.declared.taken.Taken.TheVariants.{More, Whole, Dropped}
use Rattle.sccp_segment.specs.declared.taken.Why.TheVariants.{NotFirst, OutOfStep, Restarted}
use Rattle.sccp_segment.specs.declared.pool_fault.PoolFault.TheVariants.{Full}
use Rattle.sccp_segment.specs.declared.split_data_fault.SplitDataFault.TheVariants.{ZeroSize, TooMany}
use Rattle.sccp_segment.specs.Keys.{same_key, same_address}
use Rattle.sccp_segment.specs.Segments.{segment_of, segmentation_octets}
use Rattle.sccp_segment.specs.Cutting.{split_data_of}
use Rattle.sccp_segment.specs.Pooling.{run}
use Rattle.sccp_segment.specs.Reassembly.{answer_to, pooled, heard, whole}

abbrev five : List ℕ
five = 1 ∷ 2 ∷ 3 ∷ 4 ∷ 5 ∷ []

abbrev part : Bool → ℕ → List ℕ → Segment
part first remaining payload = record { first = first; in_sequence = false; remaining = remaining; reference = 9; payload = payload }

in_twos : split_data_of five 2 9 false ≡ Ok (part true 2 (1 ∷ 2 ∷ []) ∷ part false 1 (3 ∷ 4 ∷ []) ∷ part false 0 (5 ∷ []) ∷ [])
in_twos = refl

nothing : split_data_of [] 2 9 false ≡ Ok (part true 0 [] ∷ [])
nothing = refl

by_nothing : split_data_of five 0 9 false ≡ Err ZeroSize
by_nothing = refl

seventeen : split_data_of (range_with_len 0 17) 1 9 false ≡ Err TooMany
seventeen = refl

-- first of two, reference 1
contents : segment_of (0x81 ∷ 0x01 ∷ 0x00 ∷ 0x00 ∷ []) five
    ≡ record { first = true; in_sequence = false; remaining = 1; reference = 1; payload = five }
contents = refl

contents_again : segmentation_octets (record { first = true; in_sequence = true; remaining = 5; reference = 0x030201; payload = five })
    ≡ 0xC5 ∷ 0x01 ∷ 0x02 ∷ 0x03 ∷ []
contents_again = refl

-- the keys of two calling addresses and of two references
abbrev from : ℕ → Address
from ssn = record { national = false; by_ssn = true; pc = None; ssn = Some ssn; title = Absent }

abbrev key : ℕ → ℕ → Key
key ssn reference = record { calling = from ssn; reference = reference }

abbrev arrives : ℕ → Segment → Arrival
arrives ssn s = record { key = key ssn 9; segment = s }

-- with a segment of another key between
abbrev so_far : List Arrival
so_far = arrives 8 (part true 2 (1 ∷ 2 ∷ [])) ∷ arrives 7 (part true 1 (6 ∷ [])) ∷ arrives 8 (part false 1 (3 ∷ 4 ∷ [])) ∷ []

first_answer : answer_to [] (arrives 8 (part true 2 (1 ∷ 2 ∷ []))) ≡ Ok More
first_answer = refl

last_answer : answer_to (pooled [] so_far) (arrives 8 (part false 0 (5 ∷ []))) ≡ Ok (Whole five)
unfolding same_key same_address
last_answer = refl

heard_whole : whole (heard (key 8 9) (so_far ++ arrives 8 (part false 0 (5 ∷ [])) ∷ [])) ≡ Some five
unfolding same_key same_address
heard_whole = refl

not_first : answer_to [] (arrives 8 (part false 0 (5 ∷ []))) ≡ Ok (Dropped NotFirst)
not_first = refl

out_of_step : answer_to (pooled [] so_far) (arrives 8 (part false 1 (5 ∷ []))) ≡ Ok (Dropped OutOfStep)
unfolding same_key same_address
out_of_step = refl

restarted : answer_to (pooled [] so_far) (arrives 8 (part true 1 (5 ∷ []))) ≡ Ok (Dropped Restarted)
unfolding same_key same_address
restarted = refl

-- 64 messages are under way
abbrev many : List Run
many = map (λ n. run (key 8 n) 1 []) (range_with_len 100 64)

the_65th : answer_to many (arrives 8 (part true 1 (5 ∷ []))) ≡ Err Full
unfolding same_key same_address
the_65th = refl

alone_in_a_full_pool : answer_to many (arrives 8 (part true 0 (5 ∷ []))) ≡ Ok (Whole (5 ∷ []))
alone_in_a_full_pool = refl
