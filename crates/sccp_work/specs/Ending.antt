-- How a call ends that had some work to do: it did all of it, or a fault or want of memory cut it short.
use Rattle.std.specs.Prelude.{◌≡◌, ◌⊎◌, ℕ, ◌≤◌, List, ◌++◌, Option, Result, Ok, Err, IsTrue, IfSome, IfOk}
use Rattle.std.specs.Io.{StartsWith}
use Rattle.std.specs.Io.KnownBytes.{append_known}
use Rattle.sccp_io.specs.Faults.{Rose}
use Rattle.sccp_work.specs.Moment.{Moment}
use Rattle.sccp_work.specs.Texts.{read_fault}
use Rattle.sccp_work.specs.Writing.{Writes}
use Rattle.sccp_work.specs.Work.{Work, Ends, ComesToReading, BeginsWith, HasFiles}
use Rattle.sccp_work.specs.declared.status.Status.{Status}
use Rattle.sccp_work.specs.declared.status.Status.TheVariants.{WriteFault, NoMemory, ReadFault}
use Rattle.sccp_work.specs.declared.stop.Stop.{Stop}
use Rattle.sccp_work.specs.declared.stop.Stop.TheVariants.{Answered, Read, Write, Memory}

-- from one moment of the call to a later one
pub record Goes (before after : Moment) (text : List ℕ) : Type 0 where
  pub contents : after.contents ≡ before.contents
  pub sound : after.sound ≡ before.sound
  pub read_faults : before.read_faults ≤ after.read_faults
  pub write_faults : before.write_faults ≤ after.write_faults
  -- the sink took this text
  pub taken : after.taken ≡ append_known before.taken text

-- sound files that have each file which the work may read do not fail
abbrev pub IsSpared : Work → Moment → Moment → Type 0
IsSpared work before after = IsTrue before.sound → IfSome before.contents (λ c. HasFiles c work → after.read_faults ≡ before.read_faults)

-- a fault or want of memory cut the work short
abbrev pub IsCut : Status → Type 0
IsCut WriteFault = Unit {0}
IsCut NoMemory = Unit {0}
IsCut ReadFault = Unit {0}
IsCut answer = ⊥

-- inside the call: the answer, or what stopped the work
abbrev pub Stops : Work → Result Status Stop → List ℕ → Moment → Moment → Type 0
Stops work (Ok status) text before after = (IsCut status → ⊥) × Ends before.contents work status text
Stops work (Err (Answered status)) text before after = (IsCut status → ⊥) × Ends before.contents work status text
Stops work (Err Read) text before after = Rose before.read_faults after.read_faults × ComesToReading before.contents work text
Stops work (Err Write) text before after = Rose before.write_faults after.write_faults × BeginsWith before.contents work text
Stops work (Err Memory) text before after = BeginsWith before.contents work text

-- the work was done up to this result
pub record Works (work : Work) (result : Result Status Stop) (before after : Moment) : Type 0 where
  pub text : List ℕ
  pub goes : Goes before after text
  pub stops : Stops work result text before after
  pub spared : IsSpared work before after

-- A front of what is written: of the work's own text or, if the files failed, of what is before a reading and the line on
-- the fault.
abbrev pub IsCutShort : Work → List ℕ → Moment → Moment → Type 0
IsCutShort work text before after =
    BeginsWith before.contents work text
    ⊎ (Rose before.read_faults after.read_faults × ((written front : List ℕ) × ComesToReading before.contents work written
    × StartsWith read_fault front × (text ≡ written ++ front)))

-- what the text is under each answer
abbrev pub Answers : Work → Status → List ℕ → Moment → Moment → Type 0
Answers work WriteFault text before after = Rose before.write_faults after.write_faults × IsCutShort work text before after
Answers work NoMemory text before after = IsCutShort work text before after
Answers work ReadFault text before after =
    Rose before.read_faults after.read_faults × ((written : List ℕ) × ComesToReading before.contents work written
    × (text ≡ written ++ read_fault))
Answers work status text before after = Ends before.contents work status text

-- The call had this work to do, and answered this.
pub record Outcome (work : Work) (answer : Status) (before after : Moment) : Type 0 where
  pub text : List ℕ
  pub goes : Goes before after text
  pub answers : Answers work answer text before after
  pub spared : IsSpared work before after

-- what ends a work early whose last text was to be written
abbrev pub early : Result Status Stop → Stop
early (Ok status) = Answered status
early (Err stop) = stop

-- What the end of the call made of the result of its work.
abbrev pub answer_of : Result Status Stop → Status
answer_of (Ok status) = status
answer_of (Err (Answered status)) = status
answer_of (Err Read) = ReadFault
answer_of (Err Write) = WriteFault
answer_of (Err Memory) = NoMemory

-- For a fault of the files a last line is written, and otherwise nothing.
abbrev pub Closes : Result Status Stop → Status → Option (List ℕ) → Option (List ℕ) → ℕ → ℕ → Type 0
Closes (Err Read) answer taken taken' faults faults' =
    (last : Result Status Stop) × Writes read_fault last taken taken' faults faults' × IfOk last (λ s. s ≡ ReadFault)
    × (answer ≡ answer_of last)
Closes result answer taken taken' faults faults' = (answer ≡ answer_of result) × (taken' ≡ taken) × (faults' ≡ faults)
