-- The command that follows one title under empty markings, without a verdict.
use Rattle.std.specs.Prelude.{ℕ, List, [], Option, Some, None, replicate}
use Rattle.std.specs.List.{position}
use Rattle.sccp_base.specs.declared.mark.Mark.{Mark}
use Rattle.plan_model.specs.declared.spot.Spot.{Spot}
use Rattle.plan_model.specs.Network.{Network, has_name}
use Rattle.plan_model.specs.Routes.{route}
use Rattle.sccp_report.specs.Hops.{hops_text}
use Rattle.sccp_work.specs.PlanFile.{PlanFile}
use Rattle.sccp_work.specs.Plans.{with_plan}
use Rattle.sccp_plans.specs.Texts.{unknown_node}
use Rattle.sccp_work.specs.Work.{Work, answered}
use Rattle.sccp_plans.specs.declared.start.Start.{Start}
use Rattle.sccp_work.specs.declared.status.Status.TheVariants.{Done}

-- fifteen markings that hold nothing
unfoldable pub unmarked : List (List Mark)
unmarked = replicate 15 []

-- up to fifteen hops of a title from its node
unfoldable pub hops_from : Network → Spot → List ℕ
hops_from plan spot = hops_text plan (route plan spot unmarked) unmarked

-- a title at a node
abbrev pub spot_at : Start → ℕ → Spot
spot_at start node = record { node = node; selector = start.selector; ssn = start.ssn; digits = start.digits }

abbrev pub text_from : Network → Start → Option ℕ → List ℕ
text_from plan start None = unknown_node
text_from plan start (Some node) = hops_from plan (spot_at start node)

-- the hops from the node of that name, or the line that no node has it
abbrev pub route_text : Network → Start → List ℕ
route_text plan start = text_from plan start (position (has_name start.node) plan.nodes)

abbrev pub route_work : PlanFile → Start → Work
route_work file start = with_plan file (λ plan. answered (Done, route_text plan start))
