-- The ranks of subsystem numbers.
use Rattle.std.specs.Prelude.{ℕ, ◌≡◌, ◌==◌, true, false, Option, Some, None, nat_eq, refl}
use Rattle.std.specs.Option.{option_eq}
use Rattle.std.proofs.Common.{arith, sym}
use Rattle.std.proofs.lemmas.Bool.Decides.{nat_tests}
use Rattle.std.proofs.lemmas.Bool.{false≢true}
use Rattle.plan_rules.specs.Order.{ssn_rank}

-- other subsystem numbers, or one and none, have other ranks
pub ranks_apart : (a b : Option ℕ) → option_eq nat_eq a b ≡ false → (ssn_rank a == ssn_rank b) ≡ false
ranks_apart None None e = absurd (false≢true (sym e))
ranks_apart None (Some n) e = grind (arith, nat_tests)
ranks_apart (Some m) None e = grind (arith, nat_tests)
ranks_apart (Some m) (Some n) e = grind (arith, nat_tests)

-- the same ones have the same rank
pub same_ranks : (a b : Option ℕ) → option_eq nat_eq a b ≡ true → ssn_rank a ≡ ssn_rank b
same_ranks None None e = refl
same_ranks None (Some n) e = absurd (false≢true e)
same_ranks (Some m) None e = absurd (false≢true e)
same_ranks (Some m) (Some n) e = grind (arith, nat_tests)
