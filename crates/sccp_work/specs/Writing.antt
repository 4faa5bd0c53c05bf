-- What is written to a sink of a text, whole or in part.
use Rattle.std.specs.Prelude.{◌≡◌, ℕ, ◌≤◌, List, Option, Result, IsErrOf, OnOk}
use Rattle.std.specs.Io.{StartsWith}
use Rattle.std.specs.Io.KnownBytes.{append_known}
use Rattle.sccp_io.specs.Faults.{Rose}
use Rattle.sccp_work.specs.declared.status.Status.{Status}
use Rattle.sccp_work.specs.declared.stop.Stop.{Stop}
use Rattle.sccp_work.specs.declared.stop.Stop.TheVariants.{Answered, Read, Write}

-- the sink took a front of the text, at `Ok` all of it; `Write` is given only if its count of faults rose
pub record Writes {T : Type 0} (text : List ℕ) (result : Result T Stop) (taken taken' : Option (List ℕ)) (faults faults' : ℕ) : Type 0 where
  pub front : List ℕ
  pub begins : StartsWith text front
  pub appends : taken' ≡ append_known taken front
  pub later : faults ≤ faults'
  pub whole : OnOk result (front ≡ text)
  pub failed : IsErrOf result Write → Rose faults faults'
  pub no_reading : IsErrOf result Read → ⊥
  pub no_answer : (status : Status) → IsErrOf result (Answered status) → ⊥
