-- What the code of a replay gives, whatever the replay goes on with.
use Rattle.std.specs.Prelude.{◌≡◌, ℕ, ◌+◌, ◌≤◌, true, false, List, [], ◌++◌, length, Option, Some, None, Result}
use Rattle.trace_text.specs.Told.{HasRead, ahead, told, with_front}
use Rattle.trace_text.specs.Told as reading
use Rattle.trace_text.specs.declared.fed.Fed.{Fed}
use Rattle.trace_text.specs.declared.line.Numbered.{Numbered}
use Rattle.sccp_work.specs.Ending.{Works}
use Rattle.sccp_work.specs.Moment.{Moment}
use Rattle.sccp_replay.specs.Replay.{Standing, Settled, settle, batch_work, closing_of, lines_work}
use Rattle.sccp_work.specs.Work.{Work}
use Rattle.sccp_work.specs.declared.status.Status.{Status}
use Rattle.sccp_work.specs.declared.stop.Stop.{Stop}

-- From here on the whole work ends as what is left of it does.
abbrev pub EndsAs : Work → Work → Moment → Moment → Type 0
EndsAs whole left first now = (result : Result Status Stop) (after : Moment) → Works left result now after → Works whole result first after

-- the plan lines of a batch were settled, up to these lines
abbrev pub SettlesTo : Standing → List Numbered → Standing → List Settled → List Numbered → Moment → Moment → Type 0
SettlesTo at lines at' settled left first now = (next : Standing → List Settled → Work)
    → EndsAs (settle at [] lines next) (settle at' settled left next) first now

-- a batch is done: its text, and the state of the replay after it
abbrev pub BatchGives : Standing → List Numbered → Standing → List ℕ → Moment → Moment → Type 0
BatchGives at lines at' text first now = (next : Standing → List ℕ → Work) → EndsAs (batch_work at lines next) (next at' text) first now

-- a later plan was too long, or the work stopped: there is nothing to go on with
abbrev pub BatchStops : Standing → List Numbered → Result Status Stop → Moment → Moment → Type 0
BatchStops at lines result first now = (next : Standing → List ℕ → Work) → Works (batch_work at lines next) result first now

-- what may still follow of a file: what is left of it, if that is known
abbrev pub MayCome : Option (List ℕ) → List ℕ → Type 0
MayCome None rest = Unit {0}
MayCome (Some octets) rest = octets ≡ rest

abbrev pub work_behind : ℕ → Standing → List Numbered → List Numbered → Fed → Work
work_behind count at batch waiting fed = lines_work (closing_of (count + length fed.lines) fed.fault) at batch (waiting ++ fed.lines)

-- This number of lines was read. Those of a batch that has begun are gathered, others wait; the reader has the rest of the
-- trace to read.
abbrev pub rest_work : ℕ → Standing → List Numbered → List Numbered → reading.Standing → List ℕ → Work
rest_work count at batch waiting reader rest = work_behind count at batch waiting (ahead reader true rest)

-- the loop over the pieces of a trace: whatever may still follow of it
abbrev pub GoesOn : Work → ℕ → Standing → List Numbered → List Numbered → reading.Standing → Option (List ℕ) → Moment → Moment → Type 0
GoesOn whole count at batch waiting reader left first now =
    (rest : List ℕ) → MayCome left rest → EndsAs whole (rest_work count at batch waiting reader rest) first now

-- The reader was fed this text in this number of pieces of at least one octet: it gave this number of lines, and no fault.
pub record HasFed (reader : reading.Standing) (count pieces : ℕ) (text : List ℕ) : Type 0 where
  pub read : HasRead reader text
  pub lines : count ≡ length (told false text).lines
  pub sound : (told false text).fault ≡ None
  pub long : pieces ≤ length text

-- so it was fed some text
abbrev pub IsFed : reading.Standing → ℕ → ℕ → Type 0
IsFed reader count pieces = (text : List ℕ) × HasFed reader count pieces text

-- What a call of the reader gives, whatever it was fed before: of the text and this piece after it, these lines follow those
-- before.
abbrev pub FeedsOn : reading.Standing → reading.Standing → List ℕ → Fed → Type 0
FeedsOn reader reader' piece fed =
    (text : List ℕ) → HasRead reader text → HasRead reader' (text ++ piece)
    × (told false (text ++ piece) ≡ with_front (told false text).lines fed)
