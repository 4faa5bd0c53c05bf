-- What is read of a file.
use Rattle.std.specs.Prelude.{◌≡◌, ℕ, ◌<◌, ◌≤◌, List, length, Bool, false, Option, Some, None, Result, Vec, IsTrue, IsErrOf, IfOk}
use Rattle.std.specs.declared.alloc.Global.{Global}
use Rattle.sccp_io.specs.Faults.{Rose}
use Rattle.sccp_io.specs.Files.{Contents, Reads, lacks}
use Rattle.sccp_io.specs.declared.fault.IoFault.{IoFault}
use Rattle.sccp_io.specs.declared.fault.IoFault.TheVariants.{Failed, OutOfMemory}
use Rattle.sccp_work.specs.declared.status.Status.{Status}
use Rattle.sccp_work.specs.declared.stop.Stop.{Stop}
use Rattle.sccp_work.specs.declared.stop.Stop.TheVariants.{Answered, Read, Write, Memory}

-- how a fault of the files stops the work
abbrev pub reading_stop : IoFault → Stop
reading_stop Failed = Read
reading_stop OutOfMemory = Memory

-- the octets of the file, or none if it has more than the limit
abbrev pub GivesFile : Option Contents → List ℕ → ℕ → Option (Vec ℕ Global) → Type 0
GivesFile contents name limit (Some octets) = Reads contents name octets.items × (length octets.items ≤ limit)
GivesFile contents name limit None = (octets : List ℕ) × Reads contents name octets × (limit < length octets)

-- The file was read, or `Read` is the result. `Read` is given only if the count of faults rose, and for sound files only if
-- they lack the file.
pub record ReadsFile (name : List ℕ) (limit : ℕ) (result : Result (Option (Vec ℕ Global)) Stop) (contents contents' : Option Contents)
    (sound sound' : Bool) (faults faults' : ℕ) : Type 0 where
  pub gives : IfOk result (GivesFile contents name limit)
  pub same : contents' ≡ contents
  pub soundness : sound' ≡ sound
  pub later : faults ≤ faults'
  pub failed : IsErrOf result Read → Rose faults faults'
  pub spared : IsTrue sound → lacks contents name ≡ false → faults' ≡ faults
  pub no_writing : IsErrOf result Write → ⊥
  pub no_answer : (status : Status) → IsErrOf result (Answered status) → ⊥
