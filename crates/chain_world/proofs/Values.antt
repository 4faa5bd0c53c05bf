-- Statements about the value of a call.
use Rattle.std.specs.Prelude.{Result, Ok, Err, IfOk}

-- if something holds of the value, whatever follows from it holds of the value too
pub ok_then : {A E : Type 0} {P Q : A → Type 0} (r : Result A E) → ((x : A) → P x → Q x) → IfOk r P → IfOk r Q
ok_then (Ok x) f p = f x p
ok_then (Err e) f p = p
