-- Covers that ask for nothing that another cover of the plan does not ask for.
use Rattle.std.specs.Prelude.{ℕ, ◌≡◌, ◌≢◌, ◌<◌, ◌≤◌, ◌⊎◌, max, nat_eq, IsTrue, List, length, Some, slice_get}
use Rattle.std.specs.List.{All, Any, AllPairs, Contains, starts_with}
use Rattle.plan_model.specs.declared.cover.Cover.{Cover}
use Rattle.plan_covers.specs.declared.needless.Needless.{Needless}

-- the fewest digits that a title of the cover has
abbrev pub fewest : Cover → ℕ
fewest cover = max cover.least (length cover.prefix)

-- each title of the first cover is one of the second
pub record IsWithin (a b : Cover) : Type 0 where
  pub node : a.node ≡ b.node
  pub selector : a.selector ≡ b.selector
  pub ssn : a.ssn ≡ b.ssn
  pub prefix : IsTrue (starts_with nat_eq a.prefix b.prefix)
  pub least : b.least ≤ fewest a
  pub most : a.most ≤ b.most

-- and each place that the second cover allows, the first one allows too
pub record AddsNothing (a b : Cover) : Type 0 where
  pub within : IsWithin a b
  pub allowed : (place : ℕ × ℕ) → Contains b.allowed place → Contains a.allowed place

-- The cover at place j adds nothing to the one at place i. Of two that add nothing to each other, this is said of the later one
-- only, so all covers of which it is said can go together.
pub record IsNeedlessBy (covers : List Cover) (j i : ℕ) : Type 0 where
  pub cover : Cover
  pub other : Cover
  pub at : slice_get covers j ≡ Some cover
  pub there : slice_get covers i ≡ Some other
  pub apart : j ≢ i
  pub nothing : AddsNothing cover other
  pub later : (i < j) ⊎ (AddsNothing other cover → ⊥)

-- and i is the first such place
pub record IsFirstNeedlessBy (covers : List Cover) (j i : ℕ) : Type 0 where
  pub needless : IsNeedlessBy covers j i
  pub first : (k : ℕ) → k < i → IsNeedlessBy covers j k → ⊥

-- the needless covers in ascending order, each with the first one to which it adds nothing
pub record AreNeedless (covers : List Cover) (found : List Needless) : Type 0 where
  pub each : All (λ n. IsFirstNeedlessBy covers n.cover n.within) found
  pub every : (j i : ℕ) → IsNeedlessBy covers j i → Any (λ n. n.cover ≡ j) found
  pub ascending : AllPairs (λ a b. a.cover < b.cover) found
