-- How many losses there can be before a title of a cover is stopped.
use Rattle.std.specs.Prelude.{ℕ, ◌≡◌, ◌+◌, ◌≤◌, List, length, replicate}
use Rattle.sccp_base.specs.declared.mark.Mark.{Mark}
use Rattle.plan_model.specs.Network.{Network}
use Rattle.plan_model.specs.Verdicts.{HasSpot}
use Rattle.plan_margin.specs.declared.loss_kinds.LossKinds.{LossKinds}
use Rattle.plan_margin.specs.declared.stop.Stop.{Stop}
use Rattle.plan_margin.specs.declared.margin.Margin.{Margin}
use Rattle.plan_margin.specs.declared.margin.Margin.TheVariants.{Stopped, Survives, SurvivesAny, TooWide}
use Rattle.plan_margin.specs.Outages.{Outage, Arrives, route_in, SurvivesBelow, SurvivesAll}
use Rattle.plan_margin.specs.Ways.{HasManyWays}

-- a title of the cover that does not arrive in an outage of this number of losses, and its route
pub record IsStop (plan : Network) (kinds : LossKinds) (number count : ℕ) (stop : Stop) : Type 0 where
  pub marks : List Mark
  pub covered : HasSpot plan number stop.spot
  pub outage : Outage plan kinds number marks
  pub size : length marks ≡ count
  pub stopped : Arrives plan number marks stop.spot → ⊥
  pub markings : stop.markings ≡ replicate 14 marks
  pub hops : stop.hops ≡ route_in plan marks stop.spot

-- What a margin says of up to `losses` losses of these kinds. This number of losses stops a title, and fewer stop none. Or no title is
-- stopped by that number of losses, or by any number. Or fewer losses stop none, and for this number there are too many ways.
abbrev pub IsMargin : Network → LossKinds → ℕ → ℕ → Margin → Type 0
IsMargin plan kinds number losses (Stopped stop) = (count : ℕ) × (count ≤ losses) × SurvivesBelow plan kinds number count
    × IsStop plan kinds number count stop
IsMargin plan kinds number losses Survives = SurvivesBelow plan kinds number (losses + 1)
IsMargin plan kinds number losses SurvivesAny = SurvivesAll plan kinds number
IsMargin plan kinds number losses (TooWide count) =
    (count ≤ losses) × SurvivesBelow plan kinds number count × HasManyWays plan kinds number count
