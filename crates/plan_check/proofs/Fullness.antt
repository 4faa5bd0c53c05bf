-- a table that is not full stays within its limit when a class is put in it
use Rattle.std.specs.Prelude.{ℕ, ◌≡◌, ◌+◌, ◌≤◌, List, length, Option, Some, None, is_some, if◌then◌else◌}
use Rattle.std.proofs.Common.{sym, arith}
use Rattle.plan_model.specs.Limits.{most_classes}
use Rattle.plan_classes.specs.Titles.{Titles}
use Rattle.plan_check.specs.Ranking.{rank_in, IsRanks, IsFullFor}

pub put_few : (old : List (Titles × ℕ)) (c : Titles) (count : ℕ) (was : Option ℕ) → IsRanks old → (IsFullFor old c → ⊥)
    → was ≡ rank_in old c → count ≡ length old + (if is_some was then 0 else 1) → count ≤ most_classes
put_few old c count (Some r) is other w e = omega (arith, is.few, e)
put_few old c count None is other w e = below (length old) is.few (λ full. other (record { full = full; other = sym w })) e
  where
    below : (n : ℕ) → n ≤ most_classes → (n ≡ most_classes → ⊥) → count ≡ n + 1 → count ≤ most_classes
    below n le ne e = omega (arith, le, ne, e)
