-- The classes on the ways of a cover's titles.
use Rattle.std.specs.Prelude.{ℕ, ◌≡◌, ◌+◌, ◌-◌, ◌<◌, List, [], ◌∷◌, length, IsSomeAnd, slice_get}
use Rattle.sccp_base.specs.declared.mark.Mark.{Mark}
use Rattle.sccp_base.specs.declared.mark.Mark.TheVariants.{PointCode}
use Rattle.sccp_base.specs.Marks.{holds, same_mark}
use Rattle.plan_model.specs.Network.{Network, point_of}
use Rattle.plan_classes.specs.declared.leads.Image.TheVariants.{Next}
use Rattle.plan_classes.specs.Titles.{Titles, parts_of}
use Rattle.plan_classes.specs.Classes.{start_of, Decided, HasImage}
use Rattle.plan_margin.specs.declared.outage_set.OutageSet.{OutageSet}
use Rattle.plan_margin.specs.declared.loss_kinds.LossKinds.{LossKinds}
use Rattle.plan_margin.specs.declared.found.Found.{Found}
use Rattle.plan_margin.specs.declared.found.Found.TheVariants.{Stopped, Through, Wide}
use Rattle.plan_margin.specs.declared.turn.Turn.TheVariants.{Lost, Taken, Either}
use Rattle.plan_margin.specs.Searching.{IsTurn, IsWithUp, IsWithLost, most_ways}

-- A stage on the ways of titles: a class, some classes, the targets of a decided class from a place on, or the target that the titles
-- of the class take.
pub data Stage : Type 0 where
  AtClass : Titles → Stage
  AtClasses : List Titles → Stage
  AtTargets : Titles → ℕ → Stage
  AtTarget : Titles → ℕ → Stage

-- In the outages of a set, at least this number of classes are on the ways from a stage on, if `left` more hops may follow. A class
-- counts once for each way to it.
pub data Ways (plan : Network) : OutageSet → ℕ → Stage → ℕ → Type 0 where
  Uncounted : {set : OutageSet} {left : ℕ} {stage : Stage} → Ways plan set left stage 0
  -- a class, with the classes of its parts if it is undecided, and with those to which its targets lead otherwise
  Counted : {set : OutageSet} {left : ℕ} {c : Titles} → 0 < left → Ways plan set left (AtClass c) 1
  InParts : {set : OutageSet} {left n : ℕ} {c : Titles} → 0 < left → (Decided plan c → ⊥)
      → Ways plan set left (AtClasses (parts_of c)) n → Ways plan set left (AtClass c) (1 + n)
  ByRow : {set : OutageSet} {left n : ℕ} {c : Titles} → 0 < left → Decided plan c → Ways plan set left (AtTargets c 0) n
      → Ways plan set left (AtClass c) (1 + n)
  -- the first of some classes, and the others
  Each : {set : OutageSet} {left n m : ℕ} {c : Titles} {cs : List Titles} → Ways plan set left (AtClass c) n
      → Ways plan set left (AtClasses cs) m → Ways plan set left (AtClasses (c ∷ cs)) (n + m)
  -- a target that is closed in all of the outages, or taken in all of them
  IsClosed : {set : OutageSet} {left n : ℕ} {c : Titles} {k : ℕ} → IsTurn plan c k set Lost
      → Ways plan set left (AtTargets c (k + 1)) n → Ways plan set left (AtTargets c k) n
  IsTaken : {set : OutageSet} {left n : ℕ} {c : Titles} {k : ℕ} → IsTurn plan c k set Taken
      → Ways plan set left (AtTarget c k) n → Ways plan set left (AtTargets c k) n
  -- A target that is closed if this mark is held, which is one more loss. If it is not held, the target is looked at again.
  IfUp : {set up : OutageSet} {left n : ℕ} {c : Titles} {k : ℕ} {x : Mark} → IsTurn plan c k set (Either x) → IsWithUp set x up
      → Ways plan up left (AtTargets c k) n → Ways plan set left (AtTargets c k) n
  Both : {set up lost : OutageSet} {left n m : ℕ} {c : Titles} {k : ℕ} {x : Mark} → IsTurn plan c k set (Either x) → IsWithUp set x up
      → Ways plan up left (AtTargets c k) n → length set.lost < set.most → IsWithLost set x lost
      → Ways plan lost left (AtTargets c (k + 1)) m → Ways plan set left (AtTargets c k) (n + m)
  -- the class that the target makes of this one
  Onward : {set : OutageSet} {left n : ℕ} {c next : Titles} {k : ℕ} → HasImage plan c k (Next next)
      → Ways plan set (left - 1) (AtClass next) n → Ways plan set left (AtTarget c k) n

-- the set of all outages of up to this number of losses that spare a node
pub record IsFirstSet (plan : Network) (kinds : LossKinds) (node most : ℕ) (set : OutageSet) : Type 0 where
  pub counted : set.kinds ≡ kinds
  pub none : set.lost ≡ []
  pub spared : (m : Mark) → holds set.up m ≡ same_mark (PointCode (point_of plan node)) m
  pub few : set.most ≡ most

-- in these outages, there are at least 1,048,576 classes on the ways of the titles of a class
pub record HasWays (plan : Network) (kinds : LossKinds) (most : ℕ) (c : Titles) : Type 0 where
  pub set : OutageSet
  pub first : IsFirstSet plan kinds c.node most set
  pub tree : Ways plan set 14 (AtClass c) most_ways

-- in the outages of up to this number of losses, there are at least 1,048,576 classes on the ways of the cover's titles
abbrev pub HasManyWays : Network → LossKinds → ℕ → ℕ → Type 0
HasManyWays plan kinds number most = IsSomeAnd (slice_get plan.covers number) (λ cover. HasWays plan kinds most (start_of number cover))

-- ---- what the search counts

-- between two counts, the search met no more classes than there are on the ways from the stage on
pub record Counts (plan : Network) (set : OutageSet) (left : ℕ) (stage : Stage) (old new : ℕ) : Type 0 where
  pub met : ℕ
  pub tree : Ways plan set left stage met
  pub sum : new ≡ old + met

-- the same of the targets from a place on, if this mark is not held
pub record CountsUp (plan : Network) (set : OutageSet) (left : ℕ) (c : Titles) (place : ℕ) (mark : Mark) (old new : ℕ) : Type 0 where
  pub up : OutageSet
  pub made : IsWithUp set mark up
  pub counts : Counts plan up left (AtTargets c place) old new

-- the same of the targets after that place, if this mark is held
pub record CountsLost (plan : Network) (set : OutageSet) (left : ℕ) (c : Titles) (place : ℕ) (mark : Mark) (old new : ℕ) : Type 0 where
  pub lost : OutageSet
  pub room : length set.lost < set.most
  pub made : IsWithLost set mark lost
  pub counts : Counts plan lost left (AtTargets c (place + 1)) old new

-- a fact on a class of which the search met too many
abbrev pub IfWide : Type 0 → Found → Type 0
IfWide fact (Stopped digits lost) = Unit {0}
IfWide fact (Through cut) = Unit {0}
IfWide fact Wide = fact
