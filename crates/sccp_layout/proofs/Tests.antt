-- Tests of lengths and pointers, one after the other.
use Rattle.std.specs.Prelude.{◌≡◌, ℕ, Bool, true, cond, Option, Some, None, option_map}
use Rattle.std.specs.Option.{option_or}
use Rattle.sccp_layout.specs.declared.parts.JoinFault.{JoinFault}
use Rattle.sccp_layout.specs.declared.parts.JoinFault.TheVariants.{TooLong, PointerTooFar}

-- the first of four tests that fails
unfoldable pub first_failed : Bool → Bool → Bool → Bool → Option ℕ
first_failed a b c d = cond a (cond b (cond c (cond d None (Some 3)) (Some 2)) (Some 1)) (Some 0)

pub none_failed : (a b c d : Bool) → a ≡ true → b ≡ true → c ≡ true → d ≡ true → first_failed a b c d ≡ None
unfolding first_failed
none_failed a b c d p q r s = λ i. cond (p i) (cond (q i) (cond (r i) (cond (s i) None (Some 3)) (Some 2)) (Some 1)) (Some 0)

-- a fault of lengths, or else one of pointers
unfoldable pub fault : Option ℕ → Option ℕ → Option JoinFault
fault x y = option_or (option_map TooLong x) (option_map PointerTooFar y)

pub none_of_both : (x y : Option ℕ) → x ≡ None → y ≡ None → fault x y ≡ None
unfolding fault
none_of_both x y p q = λ i. option_or (option_map TooLong (p i)) (option_map PointerTooFar (q i))
