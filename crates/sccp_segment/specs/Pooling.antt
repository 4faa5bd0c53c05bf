-- How messages are put together from their segments (ITU-T Q.714 section 4.1). Profile: 64 messages at most, and what is
-- given up and answered for segments out of step.
use Rattle.std.specs.Prelude.{◌≡◌, ℕ, ◌+◌, ◌≤◌, ◌==◌, nat_le, Bool, true, false, not, if◌then◌else◌, List, [], ◌∷◌, ◌++◌, length, filter}
use Rattle.std.specs.Prelude.{find, Option, Some, None, Result, Ok, Err}
use Rattle.std.specs.List.{list_any}
use Rattle.sccp_base.specs.Answers.{Answers}
use Rattle.sccp_segment.specs.declared.key.Key.{Key}
use Rattle.sccp_segment.specs.declared.segment.Segment.{Segment}
use Rattle.sccp_segment.specs.declared.run.Run.{Run}
use Rattle.sccp_segment.specs.declared.taken.Taken.{Taken}
use Rattle.sccp_segment.specs.declared.taken.Taken.TheVariants.{More, Whole, Dropped}
use Rattle.sccp_segment.specs.declared.taken.Why.TheVariants.{NotFirst, OutOfStep, Restarted}
use Rattle.sccp_segment.specs.declared.pool_fault.PoolFault.{PoolFault}
use Rattle.sccp_segment.specs.declared.pool_fault.PoolFault.TheVariants as faults
use Rattle.sccp_segment.specs.Keys.{same_key}

-- A run is what has arrived of one message that is under way. It has its key, the remaining number of the last segment that
-- arrived, and the data so far.
abbrev pub is_of : Key → Run → Bool
is_of key r = same_key r.key key

-- the run of a key that is under way
abbrev pub under_way : List Run → Key → Option Run
under_way runs key = find (is_of key) runs

-- the runs of the other keys
abbrev pub others : List Run → Key → List Run
others runs key = filter (λ r. not (is_of key r)) runs

-- a run of these three
abbrev pub run : Key → ℕ → List ℕ → Run
run key remaining payload = record { key = key; remaining = remaining; payload = payload }

-- no two runs have the same key, and there are 64 at most
abbrev pub KeysDiffer : List Run → Type 0
KeysDiffer [] = Unit {0}
KeysDiffer (r ∷ rs) = (list_any (is_of r.key) rs ≡ false) × KeysDiffer rs

pub record IsPool (runs : List Run) : Type 0 where
  pub differ : KeysDiffer runs
  pub few : length runs ≤ 64

-- what a segment leaves of the runs, and the answer to it
pub record Outcome : Type 0 where
  pub runs : List Run
  pub answer : Result Taken PoolFault

abbrev pub answering : List Run → Result Taken PoolFault → Outcome
answering runs answer = record { runs = runs; answer = answer }

-- A first segment that others follow. An older run of its key is given up; without one, the segment is refused if 64 others
-- are under way.
abbrev pub started : List Run → Key → Segment → Option Run → Outcome
started runs key s None =
    if nat_le 64 (length runs)
    then answering runs (Err faults.Full)
    else answering (others runs key ++ run key s.remaining s.payload ∷ []) (Ok More)
started runs key s (Some old) = answering (others runs key ++ run key s.remaining s.payload ∷ []) (Ok (Dropped Restarted))

-- a first segment: if none follows it is whole, and an older run of its key is ended
abbrev pub first_taken : List Run → Key → Segment → Outcome
first_taken runs key s = if s.remaining == 0 then answering (others runs key) (Ok (Whole s.payload))
    else started runs key s (under_way runs key)

-- another segment, in step: it is appended to what arrived before, and the message is whole if none follows
abbrev pub appended : List Run → Key → Segment → Run → Outcome
appended runs key s old =
    if s.remaining == 0
    then answering (others runs key) (Ok (Whole (old.payload ++ s.payload)))
    else answering (others runs key ++ run key s.remaining (old.payload ++ s.payload) ∷ []) (Ok More)

-- another segment: its remaining number must be that of the segment before less one, otherwise the run is ended
abbrev pub next_taken : List Run → Key → Segment → Option Run → Outcome
next_taken runs key s None = answering runs (Ok (Dropped NotFirst))
next_taken runs key s (Some old) =
    if s.remaining + 1 == old.remaining then appended runs key s old else answering (others runs key) (Ok (Dropped OutOfStep))

-- a segment
abbrev pub took : List Run → Key → Segment → Outcome
took runs key s = if s.first then first_taken runs key s else next_taken runs key s (under_way runs key)

-- want of memory is the one fault that any call may give
abbrev pub is_memory : PoolFault → Bool
is_memory faults.OutOfMemory = true
is_memory faults.Full = false

abbrev pub Gives : {X Y : Type 0} → (X → Y) → Result X PoolFault → Result Y PoolFault → Type 0
Gives view result expected = Answers is_memory view result expected
