-- What an object of files shows: the contents by name, and what is left of an open file.
use Rattle.std.specs.Prelude.{◌≡◌, ℕ, ◌≤◌, List, length, take, Bool, false, IsTrue, Option, Some, None, is_none, option_and_then, Result}
use Rattle.std.specs.Prelude.{IfOk, OnOk, OnErr, IsErrOf, ⊤}
use Rattle.std.specs.Io.KnownBytes.{prepend_known, IsAtEnd}
use Rattle.sccp_io.specs.Faults.{Rose, HasCause, NeverFails}
use Rattle.sccp_io.specs.declared.fault.IoFault.{IoFault}
use Rattle.sccp_io.specs.declared.fault.IoFault.TheVariants.{OutOfMemory}

-- the octets of each file; none if there is no file of that name
abbrev pub Contents : Type 0
Contents = List ℕ → Option (List ℕ)

-- what is left after the begin of a file: all of it
abbrev pub whole : Option Contents → List ℕ → Option (List ℕ)
whole contents name = option_and_then (λ c. c name) contents

-- the contents are shown, and have no file of that name
abbrev pub lacks : Option Contents → List ℕ → Bool
lacks None name = false
lacks (Some c) name = is_none (c name)

-- a file of that name may give these octets: they are its contents, if contents are shown
abbrev pub Reads : Option Contents → List ℕ → List ℕ → Type 0
Reads None name octets = ⊤
Reads (Some c) name octets = c name ≡ Some octets

-- The file of that name was opened, and all of it is left. Or the call failed, and what was left before still is. An absent
-- name raises the count of faults, and a sound object fails only there.
pub record BeginsFile {T : Type 0} (name : List ℕ) (result : Result T IoFault) (contents : Option Contents) (sound : Bool)
    (left left' : Option (List ℕ)) (faults faults' : ℕ) : Type 0 where
  pub all_left : OnOk result (left' ≡ whole contents name)
  pub found : OnOk result (lacks contents name ≡ false)
  pub kept : OnErr result (left' ≡ left)
  pub cause : HasCause faults faults' result
  pub absent : IsTrue (lacks contents name) → Rose faults faults'
  pub spared : IsTrue sound → lacks contents name ≡ false → NeverFails faults faults' result

-- The front of the buffer has the next octets of the file, 0 of them only at its end. Or the call failed, and what was left
-- before still is. It never answers want of memory, and a sound object does not fail.
pub record TakesNext (buffer : List ℕ) (result : Result ℕ IoFault) (sound : Bool) (left left' : Option (List ℕ))
    (faults faults' : ℕ) : Type 0 where
  pub bound : IfOk result (λ count. count ≤ length buffer)
  pub next : IfOk result (λ count. left ≡ prepend_known (take count buffer) left')
  pub end : IfOk result (λ count. count ≡ 0 → IsAtEnd left')
  pub kept : OnErr result (left' ≡ left)
  pub memory : IsErrOf result OutOfMemory → ⊥
  pub cause : HasCause faults faults' result
  pub spared : IsTrue sound → NeverFails faults faults' result
