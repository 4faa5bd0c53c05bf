-- What the search for a stopped title is given, and what it finds.
use Rattle.std.specs.Prelude.{ℕ, ◌≡◌, ◌<◌, ◌≤◌, true, false, Bool, List, length, Some, None, is_none, IsSomeAnd, slice_get}
use Rattle.std.specs.Prelude.{◌&&◌, ◌||◌, not}
use Rattle.std.specs.List.{All, find}
use Rattle.sccp_base.specs.declared.mark.Mark.{Mark}
use Rattle.sccp_base.specs.declared.mark.Mark.TheVariants.{PointCode}
use Rattle.sccp_base.specs.Marks.{holds, same_mark, IsAscending}
use Rattle.plan_rules.specs.declared.target.Target.{Target}
use Rattle.plan_model.specs.declared.node.Node.{Node}
use Rattle.plan_model.specs.Network.{Network, point_of}
use Rattle.plan_model.specs.Steps.{marks as closing_marks, closing}
use Rattle.plan_classes.specs.Titles.{Titles, IsClass, IsMember, spot_of}
use Rattle.plan_classes.specs.Classes.{Decided, class_row, class_targets}
use Rattle.plan_classes.specs.Leading.{OpensClass}
use Rattle.plan_margin.specs.declared.choice.Choice.{Choice}
use Rattle.plan_margin.specs.declared.outage_set.OutageSet.{OutageSet}
use Rattle.plan_margin.specs.declared.loss_kinds.LossKinds.{LossKinds}
use Rattle.plan_margin.specs.declared.found.Found.{Found}
use Rattle.plan_margin.specs.declared.found.Found.TheVariants.{Stopped, Through, Wide}
use Rattle.plan_margin.specs.declared.turn.Turn.{Turn}
use Rattle.plan_margin.specs.declared.turn.Turn.TheVariants.{Past, Lost, Taken, Either}
use Rattle.plan_margin.specs.Outages.{is_loss, IsLoss, ArrivesWithin}

-- the number of classes at which the search gives up
abbrev pub most_ways : ℕ
most_ways = 1048576

-- the marks are those of an outage of the set, if they are not too many
pub record IsIn (plan : Network) (set : OutageSet) (marks : List Mark) : Type 0 where
  pub losses : All (IsLoss plan set.kinds) marks
  pub lost : (m : Mark) → holds set.lost m ≡ true → holds marks m ≡ true
  pub up : (m : Mark) → holds set.up m ≡ true → holds marks m ≡ false

-- what is lost in each outage of the set makes one of them
pub record IsOutageSet (plan : Network) (set : OutageSet) : Type 0 where
  pub losses : All (IsLoss plan set.kinds) set.lost
  pub few : length set.lost ≤ set.most
  pub apart : (m : Mark) → holds set.up m ≡ true → holds set.lost m ≡ false

-- a class at a node of the plan, of one of its covers
pub record MayExplore (plan : Network) (c : Titles) : Type 0 where
  pub node : c.node < length plan.nodes
  pub cover : c.cover < length plan.covers

-- a decided class at a node of the plan, with the row that counts for it, of which routes may go on
pub record MayChoose (plan : Network) (choice : Choice) : Type 0 where
  pub some : 0 < choice.left
  pub few : choice.left ≤ 14
  pub may : MayExplore plan choice.class.now
  pub class : IsClass choice.class.now
  pub decided : Decided plan choice.class.now
  pub row : class_row plan choice.class.now ≡ Some choice.row.now

-- a title of the class, and losses that stop it
pub record StopsOne (plan : Network) (c : Titles) (left most : ℕ) (In : List Mark
    → Type 0) (digits : List ℕ) (lost : List Mark) : Type 0 where
  pub member : IsMember c digits
  pub within : In lost
  pub few : length lost ≤ most
  pub stopped : ArrivesWithin plan c.cover left lost (spot_of c digits) → ⊥

-- each title of the class arrives under all such marks, or under at most this number of them if the search was cut
pub record AllArrive (plan : Network) (c : Titles) (left most : ℕ) (In : List Mark → Type 0) (cut : Bool) : Type 0 where
  pub arrive : (digits : List ℕ) (marks : List Mark) → IsMember c digits → In marks → (cut ≡ true → length marks ≤ most)
      → ArrivesWithin plan c.cover left marks (spot_of c digits)

-- what is found of the titles of a class under such marks, if their routes may have this number of hops
abbrev pub IsFoundIf : Network → Titles → ℕ → ℕ → (List Mark → Type 0) → Found → Type 0
IsFoundIf plan c left most In (Stopped digits lost) = StopsOne plan c left most In digits lost
IsFoundIf plan c left most In (Through cut) = AllArrive plan c left most In cut
IsFoundIf plan c left most In Wide = Unit {0}

-- what is found in the outages of a set
abbrev pub IsFound : Network → Titles → ℕ → OutageSet → Found → Type 0
IsFound plan c left set found = IsFoundIf plan c left set.most (IsIn plan set) found

-- the search has met fewer classes than it may, or has just given up
abbrev pub IsWithinLimit : Found → ℕ → Type 0
IsWithinLimit (Stopped digits lost) count = count < most_ways
IsWithinLimit (Through cut) count = count < most_ways
IsWithinLimit Wide count = count ≡ most_ways

-- the mark is held in some outages of the set, if it is not held in all of them
abbrev pub is_free : Network → OutageSet → Mark → Bool
is_free plan set mark = is_loss plan set.kinds mark && not (holds set.up mark)

-- what holds of the target at this place of the class's row
abbrev pub OfTarget : Network → Titles → ℕ → (Node → Target → Type 0) → Type 0
OfTarget plan c place P = IsSomeAnd (slice_get plan.nodes c.node) (λ node. IsSomeAnd (slice_get (class_targets plan c) place) (P node))

-- whether a mark closes the target
abbrev pub IsClosedAt : Network → Titles → List Mark → ℕ → Type 0
IsClosedAt plan c marks place = OfTarget plan c place (λ node t. is_none (closing node c.ssn marks t) ≡ false)

abbrev pub IsOpenAt : Network → Titles → List Mark → ℕ → Type 0
IsOpenAt plan c marks place = OfTarget plan c place (λ node t. closing node c.ssn marks t ≡ None)

-- in each outage of the set the targets before the place are closed
pub record PassesOver (plan : Network) (c : Titles) (place : ℕ) (set : OutageSet) : Type 0 where
  pub closed : (marks : List Mark) → IsIn plan set marks → (k : ℕ) → k < place → IsClosedAt plan c marks k
  pub within : place ≤ length (class_targets plan c)

-- in each outage of the set the title's step takes the target at this place
abbrev pub TakesIn : Network → Titles → ℕ → OutageSet → Type 0
TakesIn plan c place set = (marks : List Mark) → IsIn plan set marks → OpensClass plan c place marks

-- What the set says of a target, by the marks that close it: one of them is held in each outage, or none in any. Otherwise this is the
-- first one that is held in some outages.
abbrev pub IsTurnBy : Network → List Mark → OutageSet → Turn → Type 0
IsTurnBy plan ms set Past = ⊥
IsTurnBy plan ms set Lost = is_none (find (holds set.lost) ms) ≡ false
IsTurnBy plan ms set Taken = find (is_free plan set) ms ≡ None
IsTurnBy plan ms set (Either mark) = (find (is_free plan set) ms ≡ Some mark) × (find (holds set.lost) ms ≡ None)

-- the same of the target at a place of the class's row: there may be none
abbrev pub IsTurn : Network → Titles → ℕ → OutageSet → Turn → Type 0
IsTurn plan c place set Past = length (class_targets plan c) ≤ place
IsTurn plan c place set Lost = OfTarget plan c place (λ node t. IsTurnBy plan (closing_marks node c.ssn t) set Lost)
IsTurn plan c place set Taken = OfTarget plan c place (λ node t. IsTurnBy plan (closing_marks node c.ssn t) set Taken)
IsTurn plan c place set (Either mark) = OfTarget plan c place (λ node t. IsTurnBy plan (closing_marks node c.ssn t) set (Either mark))

-- what two searches found together, the first of which stopped no title
abbrev pub joined : Bool → Found → Found
joined cut (Stopped digits lost) = Stopped digits lost
joined cut (Through other) = Through (cut || other)
joined cut Wide = Wide

-- `more` has the outages of the set in which this mark is not held
pub record IsWithUp (set : OutageSet) (mark : Mark) (more : OutageSet) : Type 0 where
  pub kinds : more.kinds ≡ set.kinds
  pub most : more.most ≡ set.most
  pub lost : more.lost ≡ set.lost
  pub up : (m : Mark) → holds more.up m ≡ (same_mark mark m || holds set.up m)

-- `more` has the outages of the set in which it is held
pub record IsWithLost (set : OutageSet) (mark : Mark) (more : OutageSet) : Type 0 where
  pub kinds : more.kinds ≡ set.kinds
  pub most : more.most ≡ set.most
  pub lost : (m : Mark) → holds more.lost m ≡ (same_mark mark m || holds set.lost m)
  pub up : more.up ≡ set.up
  pub ascending : IsAscending more.lost

-- an outage of the set in which this mark is held, or is not
pub record IsInWith (plan : Network) (set : OutageSet) (mark : Mark) (lost : Bool) (marks : List Mark) : Type 0 where
  pub inside : IsIn plan set marks
  pub held : holds marks mark ≡ lost

-- losses of these kinds among which this node's point is not
pub record Spares (plan : Network) (kinds : LossKinds) (node : ℕ) (marks : List Mark) : Type 0 where
  pub losses : All (IsLoss plan kinds) marks
  pub spared : holds marks (PointCode (point_of plan node)) ≡ false
