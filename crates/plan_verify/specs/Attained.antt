-- Ranks that are not too high: each rank is that of a part, or one more than that of a next class.
use Rattle.std.specs.Prelude.{ℕ, ◌≡◌, ◌-◌, ◌≤◌, ◌⊎◌, Option, Some, IsSomeAnd}
use Rattle.std.specs.List.{Any}
use Rattle.plan_model.specs.Network.{Network}
use Rattle.plan_classes.specs.declared.leads.Image.TheVariants.{Next}
use Rattle.plan_classes.specs.Titles.{Titles, parts_of}
use Rattle.plan_classes.specs.Classes.{Decided, Reaches, HasImage}

-- a class has at least this rank
abbrev pub RanksFrom : (Titles → Option ℕ) → ℕ → Titles → Type 0
RanksFrom rank least c = IsSomeAnd (rank c) (λ r. least ≤ r)

-- the target at this place can be the first open one, and leads the class to that one
abbrev pub LeadsToClass : Network → Titles → ℕ → Titles → Type 0
LeadsToClass plan c place next = Reaches plan c place × HasImage plan c place (Next next)

-- a target leads the class to one of at least this rank
pub record LeadsHigh (plan : Network) (rank : Titles → Option ℕ) (c : Titles) (least : ℕ) : Type 0 where
  pub place : ℕ
  pub next : Titles
  pub leads : LeadsToClass plan c place next
  pub high : RanksFrom rank least next

-- an undecided class has a part that ranks no lower
pub record IsAttainedOpen (plan : Network) (rank : Titles → Option ℕ) (c : Titles) (r : ℕ) : Type 0 where
  pub undecided : Decided plan c → ⊥
  pub part : Any (RanksFrom rank r) (parts_of c)

-- a target leads a decided class to one that is at most one rank lower
pub record IsAttainedDecided (plan : Network) (rank : Titles → Option ℕ) (c : Titles) (r : ℕ) : Type 0 where
  pub decided : Decided plan c
  pub next : LeadsHigh plan rank c (r - 1)

abbrev pub IsAttainedClass : Network → (Titles → Option ℕ) → Titles → ℕ → Type 0
IsAttainedClass plan rank c r = IsAttainedOpen plan rank c r ⊎ IsAttainedDecided plan rank c r

-- no rank above 1 is too high
abbrev pub IsAttained : Network → (Titles → Option ℕ) → Type 0
IsAttained plan rank = (c : Titles) (r : ℕ) → rank c ≡ Some r → 2 ≤ r → IsAttainedClass plan rank c r
