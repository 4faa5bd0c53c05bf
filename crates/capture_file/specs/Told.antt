-- What is reported of the octets of a capture file.
use Rattle.std.specs.Prelude.{ℕ, zero, suc, ◌+◌, Bool, not, ◌&&◌, if◌then◌else◌, List, length, drop, Some, None}
use Rattle.capture_file.specs.Packets.{Told, only, with_front}
use Rattle.capture_file.specs.Units.{At, FileStart, Step, Takes, Needs, Fails, unit, is_end, began}
use Rattle.capture_file.specs.declared.file_fault.FileFault.TheVariants.{Cut}

-- No further unit is whole. If these octets are the rest of the whole file, then it is cut off, unless it may end here.
abbrev pub ending : Bool → At → ℕ → List ℕ → Told
ending whole at place b = only (if whole && not (is_end at b) then Some (Cut (began at place)) else None)

abbrev pub told_by : (At → ℕ → List ℕ → Told) → Bool → At → ℕ → List ℕ → Step → Told
told_by next whole at place b (Takes packets used after) = with_front packets (next after (place + used) (drop used b))
told_by next whole at place b Needs = ending whole at place b
told_by next whole at place b (Fails fault) = only (Some fault)

-- What is reported of octets that begin at that place, up to that number of units.
unfoldable pub told_from : ℕ → Bool → At → ℕ → List ℕ → Told
told_from zero whole at place b = ending whole at place b
told_from (suc units) whole at place b = told_by (told_from units whole) whole at place b (unit at place b)

-- What is reported of octets that begin at that place: the rest of the whole file, or as much of it as has arrived. Each unit
-- has an octet or more, so there are no more units than octets.
abbrev pub told_of : Bool → At → ℕ → List ℕ → Told
told_of whole at place b = told_from (length b) whole at place b

-- what is reported of a file, or of as much of it as has arrived
abbrev pub told : Bool → List ℕ → Told
told whole b = told_of whole FileStart 0 b
