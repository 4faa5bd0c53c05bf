-- What a survey of a plan says.
use Rattle.std.specs.Prelude.{ℕ, ◌≡◌, ◌<◌, ◌⊎◌, ◌↔◌, List, length, IsSomeAnd, slice_get}
use Rattle.std.specs.List.{All, Any, AllPairs, Contains}
use Rattle.plan_model.specs.declared.spot.Spot.{Spot}
use Rattle.plan_model.specs.Network.{Network}
use Rattle.plan_covers.specs.Needless.{AreNeedless}
use Rattle.plan_unused.specs.declared.survey.Gap.{Gap}
use Rattle.plan_unused.specs.declared.survey.RowPlace.{RowPlace}
use Rattle.plan_unused.specs.declared.survey.TargetPlace.{TargetPlace}
use Rattle.plan_unused.specs.declared.survey.Unused.{Unused}
use Rattle.plan_unused.specs.declared.survey.Survey.{Survey}
use Rattle.plan_unused.specs.declared.survey.Survey.TheVariants.{Unused as UnusedParts, TooWide}
use Rattle.plan_unused.specs.Uses.{UsesRelay, UsesRow, UsesTarget, HasGap}
use Rattle.plan_unused.specs.Meets.{MeetsAtLeast}

-- no covered title gets to this relay
abbrev pub IsUnusedRelay : Network → ℕ → Type 0
IsUnusedRelay plan n = (n < length plan.nodes) × (UsesRelay plan n → ⊥)

-- a row of a used relay that counts for no covered title
pub record IsUnusedRow (plan : Network) (place : RowPlace) : Type 0 where
  pub row : IsSomeAnd (slice_get plan.nodes place.node) (λ node. place.row < length node.table)
  pub relay : UsesRelay plan place.node
  pub unused : UsesRow plan place.node place.row → ⊥

-- a target of a used row that no covered title takes
pub record IsUnusedTarget (plan : Network) (place : TargetPlace) : Type 0 where
  pub target : IsSomeAnd (slice_get plan.nodes place.node)
      (λ node. IsSomeAnd (slice_get node.table place.row) (λ row. place.target < length row.targets))
  pub row : UsesRow plan place.node place.row
  pub unused : UsesTarget plan place.node place.row place.target → ⊥

-- by node and row, and by node, row and target
abbrev pub IsRowBefore : RowPlace → RowPlace → Type 0
IsRowBefore a b = (a.node < b.node) ⊎ ((a.node ≡ b.node) × (a.row < b.row))

abbrev pub IsTargetBefore : TargetPlace → TargetPlace → Type 0
IsTargetBefore a b = (a.node < b.node) ⊎ ((a.node ≡ b.node) × ((a.row < b.row) ⊎ ((a.row ≡ b.row) × (a.target < b.target))))

-- the unused relays, rows and targets, exactly, in ascending order
pub record ListsRelays (plan : Network) (relays : List ℕ) : Type 0 where
  pub exact : (n : ℕ) → Contains relays n ↔ IsUnusedRelay plan n
  pub ascending : AllPairs (λ a b. a < b) relays

pub record ListsRows (plan : Network) (rows : List RowPlace) : Type 0 where
  pub exact : (place : RowPlace) → Contains rows place ↔ IsUnusedRow plan place
  pub ascending : AllPairs IsRowBefore rows

pub record ListsTargets (plan : Network) (targets : List TargetPlace) : Type 0 where
  pub exact : (place : TargetPlace) → Contains targets place ↔ IsUnusedTarget plan place
  pub ascending : AllPairs IsTargetBefore targets

-- for exactly each cover with a title that some relay has no row for, one such title; the covers ascend
pub record ListsGaps (plan : Network) (gaps : List Gap) : Type 0 where
  pub each : All (λ gap. HasGap plan gap.cover gap.spot) gaps
  pub every : (number : ℕ) (spot : Spot) → HasGap plan number spot → Any (λ gap. gap.cover ≡ number) gaps
  pub ascending : AllPairs (λ a b. a.cover < b.cover) gaps

pub record IsUnused (plan : Network) (found : Unused) : Type 0 where
  pub relays : ListsRelays plan found.relays
  pub rows : ListsRows plan found.rows
  pub targets : ListsTargets plan found.targets
  pub covers : AreNeedless plan.covers found.covers
  pub gaps : ListsGaps plan found.gaps

-- what is unused, and which titles have no row; or covered titles get to at least as many classes as the limit of the plan
abbrev pub IsLawfulSurvey : Network → Survey → Type 0
IsLawfulSurvey plan (UnusedParts found) = IsUnused plan found
IsLawfulSurvey plan TooWide = MeetsAtLeast plan plan.limits.classes
