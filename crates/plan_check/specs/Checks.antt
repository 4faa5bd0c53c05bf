-- What a check of ranks tests, and the first fault that it reports.
use Rattle.std.specs.Prelude.{ℕ, ◌≡◌, ◌<◌, ◌≤◌, List, length, Option, Some, None, IsSome, slice_get}
use Rattle.std.specs.List.{All}
use Rattle.std.specs.declared.cmp.Ordering.TheVariants.{Less}
use Rattle.plan_model.specs.declared.cover.Cover.{Cover}
use Rattle.plan_model.specs.Network.{Network}
use Rattle.plan_model.specs.Verdicts.{Tight}
use Rattle.plan_classes.specs.declared.leads.Image.{Image}
use Rattle.plan_classes.specs.declared.leads.Image.TheVariants.{Next, Ends, NotEquipped, TooLong}
use Rattle.plan_classes.specs.Titles.{Titles, parts_of}
use Rattle.plan_classes.specs.Classes.{start_of, Decided, class_row, Reaches, HasImage}
use Rattle.plan_check.specs.declared.longest.Longest.{Longest}
use Rattle.plan_check.specs.declared.check_fault.CheckFault.{CheckFault}
use Rattle.plan_check.specs.declared.check_fault.CheckFault.TheVariants.{NoStart, NoRank, NotLower, BadEnd, NotTight, OutOfMemory}
use Rattle.plan_check.specs.Ranking.{rank_in, class_cmp}
use Rattle.plan_check.specs.Ranked.{Allows, RanksBelow, RanksUpTo, IsRankedClass, IsRanked, IsGreatestStart}

-- the image is what some target that can be the first open one makes of the class
abbrev pub LeadsTo : Network → Titles → Image → Type 0
LeadsTo plan c image = (place : ℕ) × Reaches plan c place × HasImage plan c place image

-- titles may go on, or end at a place that the cover allows
abbrev pub MayLead : Network → ℕ → Image → Type 0
MayLead plan cover (Next next) = Unit {0}
MayLead plan cover (Ends pc ssn) = Allows plan cover pc ssn
MayLead plan cover NotEquipped = ⊥
MayLead plan cover TooLong = ⊥

-- the class that titles go on to has a rank
abbrev pub NextHasRank : (Titles → Option ℕ) → Image → Type 0
NextHasRank rank (Next next) = IsSome (rank next)
NextHasRank rank (Ends pc ssn) = Unit {0}
NextHasRank rank NotEquipped = Unit {0}
NextHasRank rank TooLong = Unit {0}

-- the class that titles go on to has a rank below the bound
abbrev pub NextIsLower : (Titles → Option ℕ) → ℕ → Image → Type 0
NextIsLower rank bound (Next next) = RanksBelow rank bound next
NextIsLower rank bound (Ends pc ssn) = Unit {0}
NextIsLower rank bound NotEquipped = Unit {0}
NextIsLower rank bound TooLong = Unit {0}

-- The first test of a class: its cover and node are the plan's. A decided class also has a row, and no end that its cover does
-- not allow.
pub record HasGoodEnds (plan : Network) (c : Titles) : Type 0 where
  pub cover : c.cover < length plan.covers
  pub node : c.node < length plan.nodes
  pub row : Decided plan c → IsSome (class_row plan c)
  pub ends : Decided plan c → (image : Image) → LeadsTo plan c image → MayLead plan c.cover image

-- the second: the parts of an undecided class, and what a decided one leads on to, have ranks
pub record HasRanks (plan : Network) (rank : Titles → Option ℕ) (c : Titles) : Type 0 where
  pub parts : (Decided plan c → ⊥) → All (λ part. IsSome (rank part)) (parts_of c)
  pub next : Decided plan c → (image : Image) → LeadsTo plan c image → NextHasRank rank image

-- the third: its rank is from 1 to 14, no part's is higher, and what it leads on to ranks lower
pub record IsLower (plan : Network) (rank : Titles → Option ℕ) (c : Titles) (r : ℕ) : Type 0 where
  pub low : 1 ≤ r
  pub high : r ≤ 14
  pub parts : (Decided plan c → ⊥) → All (RanksUpTo rank r) (parts_of c)
  pub next : Decided plan c → (image : Image) → LeadsTo plan c image → NextIsLower rank r image

-- the first of the three that the class fails
abbrev pub IsClassFault : Network → (Titles → Option ℕ) → Titles → ℕ → CheckFault → Type 0
IsClassFault plan rank c r (BadEnd d) = (d ≡ c) × (HasGoodEnds plan c → ⊥)
IsClassFault plan rank c r (NoRank d) = (d ≡ c) × HasGoodEnds plan c × (HasRanks plan rank c → ⊥)
IsClassFault plan rank c r (NotLower d) = (d ≡ c) × HasGoodEnds plan c × HasRanks plan rank c × (IsLower plan rank c r → ⊥)
IsClassFault plan rank c r (NoStart number) = ⊥
IsClassFault plan rank c r NotTight = ⊥
IsClassFault plan rank c r OutOfMemory = Unit {0}

-- the class has this rank in the table, and all classes before it in the order of classes are ranked
pub record ComesFirst (plan : Network) (ranks : List (Titles × ℕ)) (c : Titles) (r : ℕ) : Type 0 where
  pub has : rank_in ranks c ≡ Some r
  pub before : (d : Titles) (s : ℕ) → rank_in ranks d ≡ Some s → class_cmp d c ≡ Less → IsRankedClass plan (rank_in ranks) d s

-- the fault is that of the first class of the table that fails a test
pub record IsTableFault (plan : Network) (ranks : List (Titles × ℕ)) (fault : CheckFault) : Type 0 where
  pub class : Titles
  pub rank : ℕ
  pub first : ComesFirst plan ranks class rank
  pub fails : IsClassFault plan (rank_in ranks) class rank fault

-- the start of each cover has a rank
abbrev pub HasStarts : Network → (Titles → Option ℕ) → Type 0
HasStarts plan rank = (number : ℕ) (cover : Cover) → slice_get plan.covers number ≡ Some cover → IsSome (rank (start_of number cover))

-- the start of this cover has no rank, and those of all earlier ones have
pub record LacksStart (plan : Network) (rank : Titles → Option ℕ) (number : ℕ) : Type 0 where
  pub cover : Cover
  pub at : slice_get plan.covers number ≡ Some cover
  pub lacks : rank (start_of number cover) ≡ None
  pub before : (earlier : ℕ) (cover : Cover) → earlier < number → slice_get plan.covers earlier ≡ Some cover
      → IsSome (rank (start_of earlier cover))

-- the starts have ranks and all classes are ranked, but the route does not have as many hops as the greatest rank of a start
pub record LacksRoute (plan : Network) (ranks : List (Titles × ℕ)) (longest : Longest) : Type 0 where
  pub bound : ℕ
  pub start : IsGreatestStart plan (rank_in ranks) bound
  pub ranked : IsRanked plan (rank_in ranks)
  pub loose : Tight plan bound longest.spot longest.markings → ⊥

-- The cause of each fault. The starts are tested first, cover by cover, then the classes in their order, and the route last.
abbrev pub IsCheckFault : Network → List (Titles × ℕ) → Longest → CheckFault → Type 0
IsCheckFault plan ranks longest (NoStart number) = LacksStart plan (rank_in ranks) number
IsCheckFault plan ranks longest (BadEnd c) = HasStarts plan (rank_in ranks) × IsTableFault plan ranks (BadEnd c)
IsCheckFault plan ranks longest (NoRank c) = HasStarts plan (rank_in ranks) × IsTableFault plan ranks (NoRank c)
IsCheckFault plan ranks longest (NotLower c) = HasStarts plan (rank_in ranks) × IsTableFault plan ranks (NotLower c)
IsCheckFault plan ranks longest NotTight = LacksRoute plan ranks longest
IsCheckFault plan ranks longest OutOfMemory = Unit {0}

-- every test passes
pub record Passes (plan : Network) (ranks : List (Titles × ℕ)) (longest : Longest) (bound : ℕ) : Type 0 where
  pub start : IsGreatestStart plan (rank_in ranks) bound
  pub ranked : IsRanked plan (rank_in ranks)
  pub tight : Tight plan bound longest.spot longest.markings
