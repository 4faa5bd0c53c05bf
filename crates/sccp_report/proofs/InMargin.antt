-- The route of a stopped title that is shown stays within its plan.
use Rattle.std.specs.Prelude.{ℕ, ◌≡◌, ◌≤◌, length, replicate}
use Rattle.std.specs.List.{All}
use Rattle.std.proofs.Common.{sym, ◌∙◌, ap, subst, List}
use Rattle.sccp_base.specs.declared.mark.Mark.{Mark}
use Rattle.plan_model.specs.Network.{Network, IsPlan}
use Rattle.plan_margin.specs.Margins.{IsMargin, IsStop}
use Rattle.plan_margin.specs.declared.loss_kinds.LossKinds.{LossKinds}
use Rattle.plan_margin.specs.declared.margin.Margin.{Margin}
use Rattle.plan_margin.specs.declared.margin.Margin.TheVariants.{Stopped, Survives, SurvivesAny, TooWide}
use Rattle.plan_margin.specs.declared.stop.Stop.{Stop}
use Rattle.sccp_report.specs.Hops.{IsHopIn}
use Rattle.sccp_report.specs.Margins.{points_lost, HasStopIn}
use Rattle.sccp_report.proofs.InPlan.{route_in as route_stays, route_short}
use Rattle.sccp_report.proofs.InVerdict.{has_node}

-- the losses are as many as the stop says
pub lost_points : (plan : Network) (kinds : LossKinds) (number count : ℕ) (stop : Stop) → IsStop plan kinds number count stop
    → points_lost stop.markings ≡ count
lost_points plan kinds number count stop is = ap points_lost is.markings ∙ is.size

stop_in : (plan : Network) (kinds : LossKinds) (number count : ℕ) (stop : Stop) → IsPlan plan → IsStop plan kinds number count stop
    → All (IsHopIn plan) stop.hops × (length stop.hops ≤ length stop.markings)
stop_in plan kinds number count stop plan_is is = (
  subst (All (IsHopIn plan)) (sym is.hops)
      (route_stays plan stop.spot (replicate 14 is.marks) plan_is (has_node plan number stop.spot plan_is is.covered)),
  subst (λ (ms : List (List Mark)). length stop.hops ≤ length ms) (sym is.markings)
      (subst (λ hops. length hops ≤ length (replicate 14 is.marks)) (sym is.hops) (route_short plan stop.spot (replicate 14 is.marks))),
)

-- the hops that a margin shows are in the plan of whose cover it is the margin
pub margin_in : (plan : Network) (kinds : LossKinds) (number losses : ℕ) (margin : Margin) → IsPlan plan
    → IsMargin plan kinds number losses margin
    → HasStopIn plan margin
margin_in plan kinds number losses (Stopped stop) plan_is is = stop_in plan kinds number is.0 stop plan_is is.3
margin_in plan kinds number losses Survives plan_is is = tt
margin_in plan kinds number losses SurvivesAny plan_is is = tt
margin_in plan kinds number losses (TooWide count) plan_is is = tt
