-- A table of ranks as the list of its classes, in their order, with their ranks.
use Rattle.std.specs.Prelude.{ℕ, ◌≡◌, ◌≤◌, List, length, Option, None}
use Rattle.std.specs.List.Sorted.{IsStrictlySortedBy}
use Rattle.std.specs.Map.{lookup, keys_of}
use Rattle.std.specs.BTreeMap.{is_at}
use Rattle.plan_model.specs.Limits.{most_classes}
use Rattle.plan_classes.specs.Titles.{Titles}
pub use Rattle.plan_classes.specs.Order.{class_cmp}

-- the rank that the table has for a class
abbrev pub rank_in : List (Titles × ℕ) → Titles → Option ℕ
rank_in ranks c = lookup (is_at (class_cmp c)) ranks

-- the classes that have a rank
abbrev pub classes_in : List (Titles × ℕ) → List Titles
classes_in ranks = keys_of ranks

-- what every table keeps: at most 262,144 classes, each below those that follow it
pub record IsRanks (ranks : List (Titles × ℕ)) : Type 0 where
  pub few : length ranks ≤ most_classes
  pub ordered : IsStrictlySortedBy class_cmp (classes_in ranks)

-- 262,144 other classes have a rank
pub record IsFullFor (ranks : List (Titles × ℕ)) (c : Titles) : Type 0 where
  pub full : length ranks ≡ most_classes
  pub other : rank_in ranks c ≡ None
