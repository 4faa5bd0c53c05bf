-- A step that fails, or that gives a value, and then what follows it.
use Rattle.std.proofs.Common.{◌≡◌, Bool, true, false, Result, Ok, Err, ap, ◌∙◌}
use Rattle.std.specs.Prelude.{⊤}
use Rattle.std.specs.Bool.{MatchBool}
use Rattle.sccp_base.specs.Answers.{◌>>=◌}
use Rattle.sccp_address.specs.declared.fault.AddressFault.{AddressFault}

pub fails : {A B : Type 0} (memory : Bool) (e : AddressFault) (r : Result A AddressFault) (f : A → Result B AddressFault)
    → MatchBool memory ⊤ (r ≡ Err e) → MatchBool memory ⊤ ((r >>= f) ≡ Err e)
fails true e r f h = h
fails false e r f h = ap (λ s. s >>= f) h

pub fails_behind : {A B : Type 0} (memory : Bool) (e : AddressFault) (r : Result A AddressFault) (x : A) (f : A → Result B AddressFault)
    → r ≡ Ok x → MatchBool memory ⊤ (f x ≡ Err e) → MatchBool memory ⊤ ((r >>= f) ≡ Err e)
fails_behind true e r x f is h = h
fails_behind false e r x f is h = ap (λ s. s >>= f) is ∙ h
