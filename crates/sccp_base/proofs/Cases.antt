-- what a test or an answer leaves, by its cases
use Rattle.std.specs.Prelude.{◌≡◌, ◌⊎◌, Bool, true, false, cond, Option, Some, None, Result, Ok, refl}
use Rattle.std.proofs.Common.{inl, inr}
use Rattle.sccp_base.specs.Answers.{unless}

-- the result of a choice was chosen by its test
pub chosen : {A : Type 0} (b : Bool) (x y z : A) → cond b x y ≡ z → ((b ≡ true) × (x ≡ z)) ⊎ ((b ≡ false) × (y ≡ z))
chosen true x y z e = inl (refl, e)
chosen false x y z e = inr (refl, e)

abbrev ok : {A E : Type 0} → A → Result A E
ok x = Ok x

-- if the answer is a value, there was no fault, and it is that value
pub unless_ok : {A E : Type 0} (o : Option E) (x w : A) → unless o (Ok x) ≡ ok w → (o ≡ None) × (x ≡ w)
unless_ok None x w e = (refl, cc)
unless_ok (Some fault) x w e = absurd cc
