-- Routes that show that a plan is not safe, before the reason is given.
use Rattle.std.specs.Prelude.{ℕ, ◌≡◌, ◌+◌, ◌≤◌, ◌⊎◌, List, length, IsSomeAnd, slice_get}
use Rattle.std.specs.List.{Contains}
use Rattle.sccp_base.specs.declared.mark.Mark.{Mark}
use Rattle.plan_model.specs.declared.spot.Spot.{Spot}
use Rattle.plan_model.specs.declared.hop.Step.{Step}
use Rattle.plan_model.specs.declared.hop.Step.TheVariants.{Sent, Ended, Blocked, NoRow, Overgrown}
use Rattle.plan_model.specs.Network.{Network}
use Rattle.plan_model.specs.Routes.{route}
use Rattle.plan_model.specs.Verdicts.{last}

-- a last step that no route of the cover may have: the title cannot go on, or the cover does not allow its end
abbrev pub IsBadEnd : Network → ℕ → Step → Type 0
IsBadEnd plan cover (Sent next target) = ⊥
IsBadEnd plan cover (Ended pc ssn target) = IsSomeAnd (slice_get plan.covers cover) (λ c. Contains c.allowed (pc, ssn) → ⊥)
IsBadEnd plan cover (Blocked cause marks) = ⊥
IsBadEnd plan cover (NoRow cause) = Unit {0}
IsBadEnd plan cover Overgrown = Unit {0}

-- after this number of hops, the route has a hop under each marking, and ends badly or has the fifteenth hop of the whole
pub record IsBadRoute (plan : Network) (cover depth : ℕ) (spot : Spot) (markings : List (List Mark)) : Type 0 where
  pub each : length (route plan spot markings) ≡ length markings
  pub some : 1 ≤ length markings
  pub few : depth + length markings ≤ 15
  pub ends : IsSomeAnd (last (route plan spot markings)) (IsBadEnd plan cover) ⊎ (depth + length markings ≡ 15)
