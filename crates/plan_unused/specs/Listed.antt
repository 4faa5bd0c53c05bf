-- The lists of what is unused, as far as they are made.
use Rattle.std.specs.Prelude.{ℕ, ◌≡◌, ◌<◌, List, length, IsSomeAnd, slice_get}
use Rattle.std.specs.List.{All, Any, AllPairs}
use Rattle.plan_model.specs.Network.{Network}
use Rattle.plan_unused.specs.declared.survey.RowPlace.{RowPlace}
use Rattle.plan_unused.specs.declared.survey.TargetPlace.{TargetPlace}
use Rattle.plan_unused.specs.Surveys.{IsUnusedRelay, IsUnusedRow, IsUnusedTarget, IsRowBefore, IsTargetBefore}
use Rattle.plan_unused.specs.Walks.{row_at, target_at}

-- The unused items before the present one, in ascending order
pub record AreBefore {X : Type 0} (Less : X → X → Type 0) (Is : X → Type 0) (present : X) (found : List X) : Type 0 where
  pub each : All Is found
  pub every : (x : X) → Less x present → Is x → Any (λ y. y ≡ x) found
  pub ascending : AllPairs Less found
  pub before : All (λ x. Less x present) found

abbrev pub RelaysSoFar : Network → ℕ → List ℕ → Type 0
RelaysSoFar plan node found = AreBefore (λ i j. i < j) (IsUnusedRelay plan) node found

abbrev pub RowsSoFar : Network → ℕ → ℕ → List RowPlace → Type 0
RowsSoFar plan node row found = AreBefore IsRowBefore (IsUnusedRow plan) (row_at node row) found

abbrev pub TargetsSoFar : Network → ℕ → ℕ → ℕ → List TargetPlace → Type 0
TargetsSoFar plan node row target found = AreBefore IsTargetBefore (IsUnusedTarget plan) (target_at node row target) found

-- the node has this number of rows
abbrev pub HasCount : Network → ℕ → ℕ → Type 0
HasCount plan node count = IsSomeAnd (slice_get plan.nodes node) (λ n. count ≡ length n.table)

-- a row is at this place
abbrev pub HasPlace : Network → RowPlace → Type 0
HasPlace plan place = IsSomeAnd (slice_get plan.nodes place.node) (λ n. place.row < length n.table)

-- a target is at this place
abbrev pub HasTarget : Network → TargetPlace → Type 0
HasTarget plan place =
    IsSomeAnd (slice_get plan.nodes place.node) (λ n. IsSomeAnd (slice_get n.table place.row) (λ row. place.target < length row.targets))

-- the row at this place has this number of targets
abbrev pub HasTargetCount : Network → RowPlace → ℕ → Type 0
HasTargetCount plan place count =
    IsSomeAnd (slice_get plan.nodes place.node) (λ n. IsSomeAnd (slice_get n.table place.row) (λ row. count ≡ length row.targets))
