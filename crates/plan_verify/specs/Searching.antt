-- What the search keeps of its table, and what it finds.
use Rattle.std.specs.Prelude.{ℕ, ◌≡◌, ◌+◌, ◌-◌, ◌<◌, ◌≤◌, List, length, Option, Some, IsSomeAnd, slice_get}
use Rattle.plan_model.specs.Network.{Network}
use Rattle.plan_classes.specs.declared.leads.Image.{Image}
use Rattle.plan_classes.specs.Titles.{Titles}
use Rattle.plan_classes.specs.Classes.{start_of, Reachable, ReachesAtLeast, Reaches, HasImage}
use Rattle.plan_check.specs.Ranking.{rank_in}
use Rattle.plan_check.specs.Ranked.{IsRanked, IsRankedClass, LeadsWell, StartsBelow}
use Rattle.plan_verify.specs.declared.found.Found.{Found}
use Rattle.plan_verify.specs.declared.found.Found.TheVariants.{Rank, Bad, Wide}
use Rattle.plan_verify.specs.declared.outcome.Greatest.{Greatest}
use Rattle.plan_verify.specs.declared.outcome.Outcome.{Outcome}
use Rattle.plan_verify.specs.declared.outcome.Outcome.TheVariants.{Ranked, Refuted, TooMany}
use Rattle.plan_verify.specs.Attained.{IsAttained, IsAttainedClass, LeadsHigh}
use Rattle.plan_verify.specs.Traces.{IsTrace}

-- no rank is lost or changed
pub record Keeps (old new : List (Titles × ℕ)) : Type 0 where
  pub kept : (c : Titles) (r : ℕ) → rank_in old c ≡ Some r → rank_in new c ≡ Some r

-- the table ranks its classes, none too high, and the plan reaches each of them
pub record IsSound (plan : Network) (ranks : List (Titles × ℕ)) : Type 0 where
  pub ranked : IsRanked plan (rank_in ranks)
  pub attained : IsAttained plan (rank_in ranks)
  pub reached : (c : Titles) (r : ℕ) → rank_in ranks c ≡ Some r → (depth : ℕ) × Reachable plan depth c

-- fewer classes have ranks than the number at which the search gives up, or none has one
abbrev pub IsBelowLimit : Network → List (Titles × ℕ) → Type 0
IsBelowLimit plan ranks = length ranks ≤ plan.limits.classes - 1

-- a class that may be explored at a depth
pub record MayExplore (plan : Network) (c : Titles) (depth : ℕ) : Type 0 where
  -- it is at a node of the plan
  pub node : c.node < length plan.nodes
  -- its titles are those of a cover
  pub cover : c.cover < length plan.covers
  -- this number of rewritings leads to it
  pub reached : Reachable plan depth c

-- what is found of a class at a depth: its rank in the table, a title of it with a bad route, or too many classes
abbrev pub IsFound : Network → Titles → ℕ → List (Titles × ℕ) → Found → Type 0
IsFound plan c depth ranks (Rank r) = (rank_in ranks c ≡ Some r) × (depth + r ≤ 14) × IsBelowLimit plan ranks
IsFound plan c depth ranks (Bad trace) = IsTrace plan c depth trace
IsFound plan c depth ranks Wide = ReachesAtLeast plan plan.limits.classes

-- a rank that agrees with the classes that follow, and is not too high
pub record IsBorneOut (plan : Network) (rank : Titles → Option ℕ) (c : Titles) (r : ℕ) : Type 0 where
  pub ranked : IsRankedClass plan rank c r
  pub attained : 2 ≤ r → IsAttainedClass plan rank c r

-- what is found of a class's parts, or of what its targets make of it
abbrev pub IsFollowed : Network → Titles → ℕ → List (Titles × ℕ) → Found → Type 0
IsFollowed plan c depth ranks (Rank r) = IsBorneOut plan (rank_in ranks) c r × (depth + r ≤ 14) × IsBelowLimit plan ranks
IsFollowed plan c depth ranks (Bad trace) = IsTrace plan c depth trace
IsFollowed plan c depth ranks Wide = ReachesAtLeast plan plan.limits.classes

-- a rank above what one target leads to, and no higher than it must be
pub record IsLedTo (plan : Network) (rank : Titles → Option ℕ) (c : Titles) (place r : ℕ) : Type 0 where
  pub well : (image : Image) → Reaches plan c place → HasImage plan c place image → LeadsWell plan rank c.cover r image
  pub low : 1 ≤ r
  pub high : 2 ≤ r → LeadsHigh plan rank c (r - 1)

-- what is found of what one target makes of a class
abbrev pub IsLed : Network → Titles → ℕ → ℕ → List (Titles × ℕ) → Found → Type 0
IsLed plan c depth place ranks (Rank r) = IsLedTo plan (rank_in ranks) c place r × (depth + r ≤ 14) × IsBelowLimit plan ranks
IsLed plan c depth place ranks (Bad trace) = IsTrace plan c depth trace
IsLed plan c depth place ranks Wide = ReachesAtLeast plan plan.limits.classes

-- the start of this cover has this rank
abbrev pub HasStart : Network → List (Titles × ℕ) → Greatest → Type 0
HasStart plan ranks greatest = IsSomeAnd (slice_get plan.covers greatest.cover) (λ cover. rank_in ranks (start_of greatest.cover cover)
    ≡ Some greatest.rank)

-- what is found of all starts: ranks, of which this one is the greatest, a bad route from a cover's start, or too many classes
abbrev pub IsOutcome : Network → List (Titles × ℕ) → Outcome → Type 0
IsOutcome plan ranks (Ranked greatest) = StartsBelow plan (rank_in ranks) greatest.rank × HasStart plan ranks greatest
    × IsBelowLimit plan ranks
IsOutcome plan ranks (Refuted number trace) = IsSomeAnd (slice_get plan.covers number)
    (λ cover. IsTrace plan (start_of number cover) 0 trace)
IsOutcome plan ranks TooMany = ReachesAtLeast plan plan.limits.classes
