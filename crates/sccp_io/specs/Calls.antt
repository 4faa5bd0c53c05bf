-- Calls on an object in memory, counted from 0, of which the listed ones fail.
use Rattle.std.specs.Prelude.{◌≡◌, ◌==◌, ℕ, List, Bool, Result, Err, IsOk}
use Rattle.std.specs.List.{list_any}
use Rattle.sccp_io.specs.Faults.{Rose, next_count}
use Rattle.sccp_io.specs.declared.fault.IoFault.{IoFault}
use Rattle.sccp_io.specs.declared.fault.IoFault.TheVariants.{Failed}

-- the call of that number is to fail
abbrev pub is_listed : List ℕ → ℕ → Bool
is_listed failing call = list_any (λ number. number == call) failing

-- a call was counted, and the list is the same
pub record CountsCall (failing failing' : List ℕ) (calls calls' : ℕ) : Type 0 where
  pub list : failing' ≡ failing
  pub next : calls' ≡ next_count calls

-- the call failed, and raised the count of faults
pub record FailsCounted {T : Type 0} (result : Result T IoFault) (faults faults' : ℕ) : Type 0 where
  pub failed : result ≡ Err Failed
  pub rose : Rose faults faults'

-- the call did not fail, and the count of faults stays
pub record Succeeds {T : Type 0} (result : Result T IoFault) (faults faults' : ℕ) : Type 0 where
  pub ok : IsOk result
  pub same : faults' ≡ faults
