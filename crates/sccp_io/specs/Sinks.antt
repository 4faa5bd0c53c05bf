-- What a sink took.
use Rattle.std.specs.Prelude.{◌≡◌, ℕ, ◌<◌, ◌≤◌, List, length, take, Option, Result, IfOk, OnErr}
use Rattle.std.specs.Io.KnownBytes.{append_known}
use Rattle.sccp_io.specs.Faults.{HasCause}
use Rattle.sccp_io.specs.declared.fault.IoFault.{IoFault}

-- the sink took one or more octets from the front of the piece, or the call failed and it took none
pub record TakesFront (piece : List ℕ) (result : Result ℕ IoFault) (taken taken' : Option (List ℕ)) (faults faults' : ℕ) : Type 0 where
  pub some : IfOk result (λ count. 0 < count)
  pub bound : IfOk result (λ count. count ≤ length piece)
  pub front : IfOk result (λ count. taken' ≡ append_known taken (take count piece))
  pub kept : OnErr result (taken' ≡ taken)
  pub cause : HasCause faults faults' result
