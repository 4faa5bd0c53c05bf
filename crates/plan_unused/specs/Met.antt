-- Where covered titles get to within fourteen hops.
use Rattle.std.specs.Prelude.{ℕ, ◌≡◌, ◌≤◌, List, length}
use Rattle.std.specs.List.{Any}
use Rattle.sccp_base.specs.declared.mark.Mark.{Mark}
use Rattle.plan_model.specs.declared.spot.Spot.{Spot}
use Rattle.plan_model.specs.Network.{Network}
use Rattle.plan_model.specs.Routes.{route}
use Rattle.plan_model.specs.Verdicts.{HasSpot}

-- A title of this cover gets to the spot, whatever the relays before it have prohibited. A message is translated at most fourteen
-- times, so a fifteenth hop does not count (ITU-T Q.714 section 2).
pub record IsMet (plan : Network) (number : ℕ) (spot : Spot) : Type 0 where
  pub start : Spot
  pub markings : List (List Mark)
  pub covered : HasSpot plan number start
  pub few : length markings ≤ 14
  pub meets : Any (λ hop. hop.spot ≡ spot) (route plan start markings)
