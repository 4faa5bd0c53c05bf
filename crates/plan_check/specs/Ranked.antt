-- Ranked classes of a plan: along each route the rank falls at every step that sends a title on.
use Rattle.std.specs.Prelude.{ℕ, ◌≡◌, ◌<◌, ◌≤◌, ◌⊎◌, length, Option, Some, IsSome, IsSomeAnd, slice_get}
use Rattle.std.specs.List.{All, Contains}
use Rattle.plan_model.specs.declared.cover.Cover.{Cover}
use Rattle.plan_model.specs.Network.{Network}
use Rattle.plan_classes.specs.declared.leads.Image.{Image}
use Rattle.plan_classes.specs.declared.leads.Image.TheVariants.{Next, Ends, NotEquipped, TooLong}
use Rattle.plan_classes.specs.Titles.{Titles, IsClass, parts_of}
use Rattle.plan_classes.specs.Classes.{start_of, Decided, class_row, Reaches, HasImage}

-- the cover of this number allows the place
abbrev pub Allows : Network → ℕ → ℕ → ℕ → Type 0
Allows plan number pc ssn = IsSomeAnd (slice_get plan.covers number) (λ cover. Contains cover.allowed (pc, ssn))

-- a class has a rank below the bound, or at it
abbrev pub RanksBelow : (Titles → Option ℕ) → ℕ → Titles → Type 0
RanksBelow rank bound c = IsSomeAnd (rank c) (λ r. r < bound)

abbrev pub RanksUpTo : (Titles → Option ℕ) → ℕ → Titles → Type 0
RanksUpTo rank bound c = IsSomeAnd (rank c) (λ r. r ≤ bound)

-- a target may lead on to lower ranks, or to an end that the class's cover allows
abbrev pub LeadsWell : Network → (Titles → Option ℕ) → ℕ → ℕ → Image → Type 0
LeadsWell plan rank cover bound (Next next) = RanksBelow rank bound next
LeadsWell plan rank cover bound (Ends pc ssn) = Allows plan cover pc ssn
LeadsWell plan rank cover bound NotEquipped = ⊥
LeadsWell plan rank cover bound TooLong = ⊥

-- a decided class has a row, and its reached targets lead well
pub record IsRankedDecided (plan : Network) (rank : Titles → Option ℕ) (c : Titles) (r : ℕ) : Type 0 where
  pub decided : Decided plan c
  pub row : IsSome (class_row plan c)
  pub leads : (place : ℕ) (image : Image) → Reaches plan c place → HasImage plan c place image → LeadsWell plan rank c.cover r image

-- an undecided class has parts, of ranks that are no higher
pub record IsRankedOpen (plan : Network) (rank : Titles → Option ℕ) (c : Titles) (r : ℕ) : Type 0 where
  pub undecided : Decided plan c → ⊥
  pub more : 0 < c.most
  pub parts : All (RanksUpTo rank r) (parts_of c)

-- a class of the plan with a rank from 1 to 14 that agrees with the classes that follow it
pub record IsRankedClass (plan : Network) (rank : Titles → Option ℕ) (c : Titles) (r : ℕ) : Type 0 where
  pub low : 1 ≤ r
  pub high : r ≤ 14
  pub class : IsClass c
  pub node : c.node < length plan.nodes
  pub cover : c.cover < length plan.covers
  pub follows : IsRankedOpen plan rank c r ⊎ IsRankedDecided plan rank c r

-- each class that has a rank is ranked in this way
abbrev pub IsRanked : Network → (Titles → Option ℕ) → Type 0
IsRanked plan rank = (c : Titles) (r : ℕ) → rank c ≡ Some r → IsRankedClass plan rank c r

-- the start of each cover has a rank up to the bound
abbrev pub StartsBelow : Network → (Titles → Option ℕ) → ℕ → Type 0
StartsBelow plan rank bound = (number : ℕ) (cover : Cover) → slice_get plan.covers number ≡ Some cover
    → RanksUpTo rank bound (start_of number cover)

-- the bound is the greatest rank of a start
pub record IsGreatestStart (plan : Network) (rank : Titles → Option ℕ) (bound : ℕ) : Type 0 where
  pub each : StartsBelow plan rank bound
  pub number : ℕ
  pub cover : Cover
  pub at : slice_get plan.covers number ≡ Some cover
  pub reached : rank (start_of number cover) ≡ Some bound
