-- The first of some covers to which a cover adds nothing.
use Rattle.std.specs.Prelude.{ℕ, ◌≡◌, ◌≤◌, min, List, Option, Some, None, IfSome, IsSomeAnd, slice_get}
use Rattle.plan_model.specs.declared.cover.Cover.{Cover}
use Rattle.plan_covers.specs.Needless.{IsNeedlessBy}

-- The cover at place j adds nothing to the one at the place `first`, and to none of those of which P is said at an earlier one. If
-- there is no such place, it adds nothing to none of those.
pub record IsFirstOf (P : Cover → Type 0) (covers : List Cover) (j : ℕ) (first : Option ℕ) : Type 0 where
  pub needless : IfSome first (IsNeedlessBy covers j)
  pub least : (i : ℕ) (other : Cover) → slice_get covers i ≡ Some other → P other → IsNeedlessBy covers j i
      → IsSomeAnd first (λ k. k ≤ i)

-- the earlier of two places
abbrev pub earlier : Option ℕ → Option ℕ → Option ℕ
earlier None b = b
earlier (Some a) None = Some a
earlier (Some a) (Some b) = Some (min a b)
