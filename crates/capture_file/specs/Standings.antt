-- A reader of a capture file that arrives in pieces.
use Rattle.std.specs.Prelude.{◌≡◌, ℕ, ◌≤◌, Bool, false, List, [], ◌++◌, length, Option, Some, None, if◌then◌else◌}
use Rattle.std.specs.Option.{MatchOption}
use Rattle.capture_file.specs.Packets.{Captured, Told, only, with_front}
use Rattle.capture_file.specs.Units.{At, FileStart, Needs, Fails, unit}
use Rattle.capture_file.specs.Steps.{step_at}
use Rattle.capture_file.specs.Told.{told_of, told}
use Rattle.capture_file.specs.declared.file_fault.FileFault.{FileFault}

-- what is read next and its place in the file, the octets of the unfinished unit, the fault, and whether the end of the file
-- was reported
pub record Standing : Type 0 where
  pub at : At
  pub place : ℕ
  pub kept : List ℕ
  pub fault : Option FileFault
  pub at_end : Bool

abbrev pub ahead_unless : Option FileFault → Standing → Bool → List ℕ → Told
ahead_unless (Some fault) s whole rest = only (Some fault)
ahead_unless None s whole rest = if s.at_end then only None else told_of whole s.at s.place (s.kept ++ rest)

-- what a reader reports of the octets still to be fed, and of the end after them if they are the rest of the whole file
abbrev pub ahead : Standing → Bool → List ℕ → Told
ahead s whole rest = ahead_unless s.fault s whole rest

-- a reader keeps at most 262,172 octets, which are no whole unit
pub record IsStanding (s : Standing) : Type 0 where
  pub short : length s.kept ≤ 262172
  pub unfinished : unit s.at s.place s.kept ≡ Needs

abbrev pub beginning : Standing
beginning = record { at = FileStart; place = 0; kept = []; fault = None; at_end = false }

-- The reader was fed these octets. However the file goes on, the reader will report exactly what was not reported before.
abbrev pub HasRead : Standing → List ℕ → Type 0
HasRead s b = (whole : Bool) (rest : List ℕ) → told whole (b ++ rest) ≡ with_front (told false b).packets (ahead s whole rest)

-- ---- what the inner calls give

-- a reader that is in the middle of a file
abbrev pub midway : At → ℕ → List ℕ → Option FileFault → Standing
midway at place kept fault = record { at = at; place = place; kept = kept; fault = fault; at_end = false }

-- However the file goes on, what is reported from the second position on follows the second packets as what is reported from
-- the first position on follows the first.
abbrev pub GoesOn : List Captured → At → ℕ → List ℕ → List Captured → At → ℕ → List ℕ → Type 0
GoesOn packets at place b packets' at' place' b' = (whole : Bool) (more : List ℕ)
    → with_front packets (told_of whole at place (b ++ more)) ≡ with_front packets' (told_of whole at' place' (b' ++ more))

-- no more can be taken, or the next unit cannot be read
abbrev pub Ends : Option FileFault → At → ℕ → List ℕ → Type 0
Ends fault at place b = MatchOption fault (step_at at place b ≡ Needs) (λ f. step_at at place b ≡ Fails f)

-- what is kept of the rest of a piece
abbrev pub left : Option FileFault → List ℕ → List ℕ
left None rest = rest
left (Some fault) rest = []

-- A reader that kept these octets took a piece: it gave these packets, and this is its state now.
pub record TakesPiece (at : At) (place : ℕ) (kept piece : List ℕ) (packets : List Captured) (now : Standing) : Type 0 where
  -- whatever follows the piece
  pub told : (whole : Bool) (more : List ℕ) → told_of whole at place (kept ++ (piece ++ more)) ≡ with_front packets (ahead now whole more)
  -- nothing of it is left to be reported
  pub settled : ahead now false [] ≡ only now.fault
