-- What a reader takes next.
use Rattle.std.specs.Prelude.{ℕ, ◌-◌, ◌==◌, min, if◌then◌else◌, List, [], length}
use Rattle.capture_file.specs.Units.{At, FileStart, Record, Block, Rest, Step, Takes, unit}
use Rattle.capture_file.specs.declared.section.Section.{Section}

-- so many octets of the rest of a block have arrived
abbrev pub rest_step : ℕ → Section → ℕ → ℕ → ℕ → ℕ → List ℕ → Step
rest_step arrived s left size start place b =
    if arrived == 0 then unit (Rest s left size start) place b else Takes [] arrived (Rest s (left - arrived) size start)

-- a whole unit; but of the rest of a block, which is passed over, as many octets as have arrived
unfoldable pub step_at : At → ℕ → List ℕ → Step
step_at (Rest s left size start) place b = rest_step (min left (length b)) s left size start place b
step_at FileStart place b = unit FileStart place b
step_at (Record order link) place b = unit (Record order link) place b
step_at (Block s) place b = unit (Block s) place b
