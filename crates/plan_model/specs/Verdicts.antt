-- Safe plans, bounds that a route reaches, and bad routes.
use Rattle.std.specs.Prelude.{ℕ, ◌≡◌, ◌≢◌, ◌≤◌, List, [], ◌∷◌, length, replicate, Option, Some, None, IsSomeAnd, slice_get}
use Rattle.std.specs.List.{AllPairs, Contains, flat_map}
use Rattle.sccp_base.specs.declared.mark.Mark.{Mark}
use Rattle.plan_model.specs.declared.spot.Spot.{Spot}
use Rattle.plan_model.specs.declared.hop.Step.{Step}
use Rattle.plan_model.specs.declared.hop.Step.TheVariants.{Sent, Ended, Blocked, NoRow, Overgrown}
use Rattle.plan_model.specs.declared.hop.Hop.{Hop}
use Rattle.plan_model.specs.declared.kind.Kind.{Kind}
use Rattle.plan_model.specs.declared.kind.Kind.TheVariants.{Loop, Long, Forbidden, NoRow as Rowless, Overgrown as Swollen}
use Rattle.plan_model.specs.Network.{Network}
use Rattle.plan_model.specs.Covered.{Covers, Covered, IsAllowed}
use Rattle.plan_model.specs.Routes.{route}

-- the last step of a route
abbrev pub last : List Hop → Option Step
last [] = None
last (hop ∷ []) = Some hop.step
last (hop ∷ next ∷ hops) = last (next ∷ hops)

-- how a route may end: at an allowed place, or with all targets closed
abbrev pub MayEnd : (ℕ → ℕ → Type 0) → Step → Type 0
MayEnd allowed (Ended pc ssn target) = allowed pc ssn
MayEnd allowed (Blocked cause marks) = Unit {0}
MayEnd allowed (Sent next target) = ⊥
MayEnd allowed (NoRow cause) = ⊥
MayEnd allowed Overgrown = ⊥

-- the route of each covered spot ends as it may within the bound, whatever each relay on it has marked
abbrev pub Safe : Network → ℕ → Type 0
Safe plan bound =
    (spot : Spot) (markings : List (List Mark)) → Covered plan spot → length markings ≡ bound →
    IsSomeAnd (last (route plan spot markings)) (MayEnd (IsAllowed plan spot))

-- some covered spot has a route of as many hops as the bound
pub record Tight (plan : Network) (bound : ℕ) (spot : Spot) (markings : List (List Mark)) : Type 0 where
  pub covered : Covered plan spot
  pub count : length markings ≡ bound
  pub hops : length (route plan spot markings) ≡ bound

-- the cover of this number has the spot
abbrev pub HasSpot : Network → ℕ → Spot → Type 0
HasSpot plan cover spot = IsSomeAnd (slice_get plan.covers cover) (λ c. Covers c spot)

-- what the kind says of the last hop
abbrev pub EndsBadly : Network → ℕ → List Hop → Kind → Type 0
EndsBadly plan cover hops (Loop from) = (hop : Hop) × (target : ℕ) × (slice_get hops from ≡ Some hop)
    × (last hops ≡ Some (Sent hop.spot target))
EndsBadly plan cover hops Long = (length hops ≡ 15) × AllPairs (λ a b. a.spot ≢ b.spot) hops
EndsBadly plan cover hops (Forbidden pc ssn) = (target : ℕ) × (last hops ≡ Some (Ended pc ssn target))
    × IsSomeAnd (slice_get plan.covers cover) (λ c. Contains c.allowed (pc, ssn) → ⊥)
EndsBadly plan cover hops (Rowless cause) = last hops ≡ Some (NoRow cause)
EndsBadly plan cover hops Swollen = last hops ≡ Some Overgrown

-- a route that shows that a plan is not safe
pub record Bad (plan : Network) (cover : ℕ) (spot : Spot) (markings : List (List Mark)) (hops : List Hop) (kind : Kind) : Type 0 where
  pub covered : HasSpot plan cover spot
  pub is_route : hops ≡ route plan spot markings
  pub each : length hops ≡ length markings
  pub some : 1 ≤ length hops
  pub few : length hops ≤ 15
  pub ends : EndsBadly plan cover hops kind

-- the marks of all markings together
abbrev pub union : List (List Mark) → List Mark
union markings = flat_map (λ marking. marking) markings

-- one marking for all relays, with all those marks, gives the same hops
abbrev pub IsSteady : Network → Spot → List (List Mark) → List Hop → Type 0
IsSteady plan spot markings hops = route plan spot (replicate (length markings) (union markings)) ≡ hops
