-- Outages, and the titles that arrive while one lasts.
use Rattle.std.specs.Prelude.{ℕ, ◌≡◌, ◌≢◌, ◌<◌, ◌++◌, ◌==◌, ◌&&◌, Bool, true, false, List, length, map, replicate, IsSomeAnd, slice_get}
use Rattle.std.specs.List.{All, AllPairs, list_any}
use Rattle.sccp_base.specs.declared.mark.Mark.{Mark}
use Rattle.sccp_base.specs.declared.mark.Mark.TheVariants.{PointCode, Sccp, Subsystem}
use Rattle.sccp_base.specs.Marks.{holds, point_of}
use Rattle.plan_model.specs.declared.spot.Spot.{Spot}
use Rattle.plan_model.specs.declared.hop.Hop.{Hop}
use Rattle.plan_model.specs.declared.hop.Step.{Step}
use Rattle.plan_model.specs.declared.hop.Step.TheVariants.{Sent, Ended, Blocked, NoRow, Overgrown}
use Rattle.plan_model.specs.Network.{Network}
use Rattle.plan_model.specs.Routes.{route}
use Rattle.plan_model.specs.Verdicts.{last, HasSpot}
use Rattle.plan_check.specs.Ranked.{Allows}
use Rattle.plan_margin.specs.declared.loss_kinds.LossKinds.{LossKinds}
use Rattle.plan_margin.specs.declared.loss_kinds.LossKinds.TheVariants.{Points, PointsAndSubsystems}

-- a relay of the plan has this point, and this subsystem of its own
abbrev pub is_own_subsystem : Network → ℕ → ℕ → Bool
is_own_subsystem plan pc ssn = list_any (λ node. node.pc == pc && list_any (λ own. own == ssn) node.subsystems) plan.nodes

-- subsystems count as losses as well
abbrev pub counts_subsystems : LossKinds → Bool
counts_subsystems Points = false
counts_subsystems PointsAndSubsystems = true

-- What the mark prohibits is a loss: a point, or a subsystem that a relay of the plan has itself. The SCCP at a point is none, since
-- the loss of the point does as much.
abbrev pub is_loss : Network → LossKinds → Mark → Bool
is_loss plan kinds (PointCode point) = true
is_loss plan kinds (Sccp point) = false
is_loss plan kinds (Subsystem point ssn) = counts_subsystems kinds && is_own_subsystem plan point ssn

abbrev pub IsLoss : Network → LossKinds → Mark → Type 0
IsLoss plan kinds mark = is_loss plan kinds mark ≡ true

-- the mark of a point, not of its SCCP or of one of its subsystems
abbrev pub IsPointMark : Mark → Type 0
IsPointMark (PointCode point) = Unit {0}
IsPointMark (Sccp point) = ⊥
IsPointMark (Subsystem point ssn) = ⊥

-- the entry relay, which the titles of the cover reach first, is not lost
abbrev pub SparesEntry : Network → ℕ → List Mark → Type 0
SparesEntry plan number marks =
    IsSomeAnd (slice_get plan.covers number) (λ cover. IsSomeAnd (slice_get plan.nodes cover.node)
    (λ node. holds marks (PointCode node.pc) ≡ false))

-- Losses, each listed once, as marks that all relays hold. The length of the list is their number.
pub record Outage (plan : Network) (kinds : LossKinds) (number : ℕ) (marks : List Mark) : Type 0 where
  pub losses : All (IsLoss plan kinds) marks
  pub once : AllPairs (λ a b. a ≢ b) marks
  pub spared : SparesEntry plan number marks

-- the hops of a title if all relays hold the same marks, at most fourteen
abbrev pub route_in : Network → List Mark → Spot → List Hop
route_in plan marks spot = route plan spot (replicate 14 marks)

-- the last step of a route that arrives: it ends at a place that the cover allows
abbrev pub IsEndAllowed : Network → ℕ → Step → Type 0
IsEndAllowed plan number (Sent next target) = ⊥
IsEndAllowed plan number (Ended pc ssn target) = Allows plan number pc ssn
IsEndAllowed plan number (Blocked cause marks) = ⊥
IsEndAllowed plan number (NoRow cause) = ⊥
IsEndAllowed plan number Overgrown = ⊥

-- within this number of hops the title's route ends at a place that the cover allows, while all relays hold these marks
pub record ArrivesWithin (plan : Network) (number hops : ℕ) (marks : List Mark) (spot : Spot) : Type 0 where
  pub ends : IsSomeAnd (last (route plan spot (replicate hops marks))) (IsEndAllowed plan number)

-- the title arrives within fourteen hops
abbrev pub Arrives : Network → ℕ → List Mark → Spot → Type 0
Arrives plan number marks spot = ArrivesWithin plan number 14 marks spot

-- every title of the cover arrives in every outage of fewer losses than the count
abbrev pub SurvivesBelow : Network → LossKinds → ℕ → ℕ → Type 0
SurvivesBelow plan kinds number count =
    (spot : Spot) (marks : List Mark) → HasSpot plan number spot → Outage plan kinds number marks → length marks < count
    → Arrives plan number marks spot

-- every title of the cover arrives in every outage
abbrev pub SurvivesAll : Network → LossKinds → ℕ → Type 0
SurvivesAll plan kinds number =
    (spot : Spot) (marks : List Mark) → HasSpot plan number spot → Outage plan kinds number marks → Arrives plan number marks spot

-- ---- for the laws of outages

-- there is a relay at this place, and its point is not lost
abbrev pub IsUp : Network → List Mark → ℕ → Type 0
IsUp plan marks node = IsSomeAnd (slice_get plan.nodes node) (λ n. holds marks (PointCode n.pc) ≡ false)

-- all targets are closed
abbrev pub IsBlocked : Step → Type 0
IsBlocked (Sent next target) = ⊥
IsBlocked (Ended pc ssn target) = ⊥
IsBlocked (Blocked cause marks) = Unit {0}
IsBlocked (NoRow cause) = ⊥
IsBlocked Overgrown = ⊥

-- the marks, and those of the SCCP at the same points
abbrev pub with_sccp : List Mark → List Mark
with_sccp marks = marks ++ map (λ mark. Sccp (point_of mark)) marks
