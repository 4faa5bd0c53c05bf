-- What a count of faults says about the answers of the object that keeps it.
use Rattle.std.specs.Prelude.{◌≡◌, ◌⊎◌, ℕ, ◌+◌, ◌-◌, ◌^◌, ◌<◌, ◌≤◌, min, Result, IsErrOf}
use Rattle.sccp_io.specs.declared.fault.IoFault.{IoFault}
use Rattle.sccp_io.specs.declared.fault.IoFault.TheVariants.{Failed}

-- the count after one more; a counter stops at the end of its type
abbrev pub next_count : ℕ → ℕ
next_count count = min (count + 1) (2 ^ 64 - 1)

-- the count rose, or is at its end, at which a counter stops
abbrev pub Rose : ℕ → ℕ → Type 0
Rose before now = (before < now) ⊎ (now ≡ 2 ^ 64 - 1)

-- the count never falls, and `Failed` is answered only if it rose
pub record HasCause {T : Type 0} (before now : ℕ) (result : Result T IoFault) : Type 0 where
  pub later : before ≤ now
  pub failed : IsErrOf result Failed → Rose before now

-- the count stays, and the answer is not `Failed`
pub record NeverFails {T : Type 0} (before now : ℕ) (result : Result T IoFault) : Type 0 where
  pub same : now ≡ before
  pub no_fault : IsErrOf result Failed → ⊥
