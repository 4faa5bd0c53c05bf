-- What the walk from hop to hop keeps.
use Rattle.std.specs.Prelude.{ℕ, ◌≡◌, ◌+◌, ◌++◌, ◌<◌, ◌≤◌, ◌⊎◌, Bool, IsTrue, IsSome, List, length, Option, Some, None, slice_get}
use Rattle.std.specs.List.{All}
use Rattle.std.specs.Ordering.{nat_cmp, ordering_then}
use Rattle.std.specs.declared.cmp.Ordering.{Ordering}
use Rattle.std.specs.BTreeMap as map
use Rattle.std.specs.BTreeSet as sorted
use Rattle.plan_rules.specs.Rule.{Rule}
use Rattle.plan_model.specs.declared.cover.Cover.{Cover}
use Rattle.plan_model.specs.declared.spot.Spot.{Spot}
use Rattle.plan_model.specs.Network.{Network, IsPlan}
use Rattle.plan_classes.specs.Titles.{Titles, parts_of}
use Rattle.plan_classes.specs.Classes.{start_of, Decided, Reaches, class_row}
use Rattle.plan_check.specs.Ranking.{rank_in, classes_in}
use Rattle.plan_unused.specs.declared.survey.RowPlace.{RowPlace}
use Rattle.plan_unused.specs.declared.survey.TargetPlace.{TargetPlace}
use Rattle.plan_unused.specs.declared.seen.Seen.{Seen}
use Rattle.plan_unused.specs.declared.stop.Stop.{Stop}
use Rattle.plan_unused.specs.Uses.{HasRow, UsesRelay, UsesRow, UsesTarget, HasGap}
use Rattle.plan_unused.specs.Fitting.{HasFitting}
use Rattle.plan_unused.specs.Meets.{Meets}

abbrev pub row_at : ℕ → ℕ → RowPlace
row_at node row = record { node = node; row = row }

abbrev pub target_at : ℕ → ℕ → ℕ → TargetPlace
target_at node row target = record { node = node; row = row; target = target }

-- places are ordered by their fields
abbrev pub row_cmp : RowPlace → RowPlace → Ordering
row_cmp a b = ordering_then (nat_cmp a.node b.node) (nat_cmp a.row b.row)

abbrev pub target_cmp : TargetPlace → TargetPlace → Ordering
target_cmp a b = ordering_then (nat_cmp a.node b.node) (ordering_then (nat_cmp a.row b.row) (nat_cmp a.target b.target))

-- what was noted
abbrev pub has_relay : Seen → ℕ → Bool
has_relay seen n = sorted.contains nat_cmp seen.relays n

abbrev pub has_row : Seen → RowPlace → Bool
has_row seen place = sorted.contains row_cmp seen.rows place

abbrev pub has_target : Seen → TargetPlace → Bool
has_target seen place = sorted.contains target_cmp seen.targets place

abbrev pub gap_in : Seen → ℕ → Option Spot
gap_in seen number = map.get nat_cmp seen.gaps number

-- all that was noted is used, and each gap is one
pub record IsSeen (plan : Network) (seen : Seen) : Type 0 where
  pub relays : (n : ℕ) → IsTrue (has_relay seen n) → UsesRelay plan n
  pub rows : (place : RowPlace) → IsTrue (has_row seen place) → UsesRow plan place.node place.row
  pub targets : (place : TargetPlace) → IsTrue (has_target seen place) → UsesTarget plan place.node place.row place.target
  pub gaps : (number : ℕ) (spot : Spot) → gap_in seen number ≡ Some spot → HasGap plan number spot

-- what was noted stays noted
pub record IsMore (before after : Seen) : Type 0 where
  pub relays : (n : ℕ) → IsTrue (has_relay before n) → IsTrue (has_relay after n)
  pub rows : (place : RowPlace) → IsTrue (has_row before place) → IsTrue (has_row after place)
  pub targets : (place : TargetPlace) → IsTrue (has_target before place) → IsTrue (has_target after place)
  pub gaps : (number : ℕ) → IsSome (gap_in before number) → IsSome (gap_in after number)

-- all that is used was noted
pub record IsWhole (plan : Network) (seen : Seen) : Type 0 where
  pub relays : (n : ℕ) → UsesRelay plan n → IsTrue (has_relay seen n)
  pub rows : (place : RowPlace) → UsesRow plan place.node place.row → IsTrue (has_row seen place)
  pub targets : (place : TargetPlace) → UsesTarget plan place.node place.row place.target → IsTrue (has_target seen place)
  pub gaps : (number : ℕ) (spot : Spot) → HasGap plan number spot → IsSome (gap_in seen number)

-- the class has a rank up to this depth
abbrev pub IsRankedBy : List (Titles × ℕ) → Titles → ℕ → Type 0
IsRankedBy met c depth = (r : ℕ) × (rank_in met c ≡ Some r) × (r ≤ depth)

-- each class of the table is met after as many hops as its rank says, no more than this depth
abbrev pub AreRanks : Network → ℕ → List (Titles × ℕ) → Type 0
AreRanks plan depth met = (c : Titles) (r : ℕ) → rank_in met c ≡ Some r → (r ≤ depth) × Meets plan r c

-- the class is decided, or its parts have ranks
abbrev pub IsPut : Network → ℕ → List (Titles × ℕ) → Titles → Type 0
IsPut plan depth met c = Decided plan c ⊎ ((Decided plan c → ⊥) × All (λ part. IsRankedBy met part depth) (parts_of c))

-- classes keep their places, and new ones come last
abbrev pub KeepsPlaces : List (Titles × ℕ) → List (Titles × ℕ) → Type 0
KeepsPlaces before after = (more : List Titles) × (classes_in after ≡ classes_in before ++ more)

-- Classes were put at this depth. Ranks and places are kept, and each class with a new rank was put.
pub record Grows (plan : Network) (depth : ℕ) (before after : List (Titles × ℕ)) : Type 0 where
  pub kept : (c : Titles) (r : ℕ) → rank_in before c ≡ Some r → rank_in after c ≡ Some r
  pub places : KeepsPlaces before after
  pub added : (c : Titles) (r : ℕ) → rank_in after c ≡ Some r → (rank_in before c ≡ Some r)
      ⊎ ((r ≡ depth) × Meets plan depth c × IsPut plan depth after c)

-- a class that may be put at this depth
pub record MayEnter (plan : Network) (depth : ℕ) (c : Titles) : Type 0 where
  pub node : c.node < length plan.nodes
  pub meets : Meets plan depth c

-- a decided class at which the walk may look
pub record MayLook (plan : Network) (depth : ℕ) (c : Titles) : Type 0 where
  pub sound : IsPlan plan
  pub node : c.node < length plan.nodes
  pub decided : Decided plan c
  pub meets : Meets plan depth c
  pub few : depth < 14

-- the walk may look at the stop's class, and the row at the stop's place counts for it
pub record IsStop (plan : Network) (stop : Stop) : Type 0 where
  pub may : MayLook plan stop.depth stop.class.now
  pub node : stop.place.node ≡ stop.class.now.node
  pub row : class_row plan stop.class.now ≡ Some stop.row.now
  pub at : HasRow plan stop.class.now.node stop.place.row stop.row.now

-- the target was noted if it is reached, and what it makes of the class has a rank unless this is the last hop
pub record IsFollowed (plan : Network) (seen : Seen) (met : List (Titles × ℕ)) (c : Titles) (depth row target : ℕ) : Type 0 where
  pub noted : Reaches plan c target → IsTrue (has_target seen (target_at c.node row target))
  pub onward : depth < 13 → (next : Titles) → Reaches plan c target → HasFitting plan c target next → IsRankedBy met next (depth + 1)

-- all that the titles of the class use was noted, and what they are sent on as has ranks unless this is the last hop
pub record IsSettled (plan : Network) (seen : Seen) (met : List (Titles × ℕ)) (c : Titles) (depth : ℕ) : Type 0 where
  pub relay : IsTrue (has_relay seen c.node)
  pub row : (r : ℕ) (row : Rule) → class_row plan c ≡ Some row → HasRow plan c.node r row → IsTrue (has_row seen (row_at c.node r))
  pub target : (r : ℕ) (row : Rule) → class_row plan c ≡ Some row → HasRow plan c.node r row → (t : ℕ) → Reaches plan c t
      → IsTrue (has_target seen (target_at c.node r t))
  pub onward : depth < 13 → (t : ℕ) (next : Titles) → Reaches plan c t → HasFitting plan c t next → IsRankedBy met next (depth + 1)
  pub gap : class_row plan c ≡ None → IsSome (gap_in seen c.cover)

-- the class at this place has this rank
pub record IsEntry (met : List (Titles × ℕ)) (place : ℕ) (c : Titles) (r : ℕ) : Type 0 where
  pub at : slice_get (classes_in met) place ≡ Some c
  pub rank : rank_in met c ≡ Some r

-- What the walk has before it looks at the stops of a hop. A decided class that was met before this hop is settled, and an undecided
-- one has parts that were met no later. The classes before the first place were met at earlier hops.
pub record IsWalk (plan : Network) (depth first : ℕ) (met : List (Titles × ℕ)) (seen : Seen) : Type 0 where
  pub ranks : AreRanks plan depth met
  pub sound : IsSeen plan seen
  pub starts : (number : ℕ) (cover : Cover) → slice_get plan.covers number ≡ Some cover → IsRankedBy met (start_of number cover) 0
  pub earlier : (place : ℕ) (c : Titles) → place < first → IsEntry met place c depth → ⊥
  pub known : (c : Titles) (r : ℕ) → rank_in met c ≡ Some r → (Decided plan c × (IsSettled plan seen met c r ⊎ (r ≡ depth)))
      ⊎ ((Decided plan c → ⊥) × All (λ part. IsRankedBy met part r) (parts_of c))
