-- Calls of a closure with the items of a slice and their places: what they ask for, and what they change. The place of the
-- first item is given.
use Rattle.std.specs.Prelude.{ℕ, ◌+◌, ◌<◌, List, length, slice_index_or}
use denote.Ref.{MutBor}
use denote.Param.Members.{Shared}
use Rattle.std.specs.Fork.{AcceptsAt, ChangesAt}

module _ {F T : Type 0} (g : Shared F (ℕ × (MutBor T × Unit {0})) ((Unit {0}) × (MutBor T × Unit {0}))) (f : F) where
  -- the closure may be called with each item and its place
  abbrev pub AcceptsFrom : ℕ → List T → Type 0
  AcceptsFrom base items = (k : ℕ) (d : T) → k < length items → AcceptsAt g f (base + k) (slice_index_or items k d)

  -- each item is what such a call made of it
  pub record ChangesFrom (base : ℕ) (items left : List T) : Type 0 where
    pub each : (k : ℕ) (d : T) → k < length items → ChangesAt g f (base + k) (slice_index_or items k d) (slice_index_or left k d)
