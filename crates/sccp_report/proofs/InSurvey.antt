-- The titles that a survey shows are at nodes of its plan.
use Rattle.std.specs.Prelude.{ℕ, ◌<◌, length, get_or}
use Rattle.std.proofs.Common.{subst}
use Rattle.plan_model.specs.declared.hop.Hop.{Hop}
use Rattle.plan_model.specs.declared.spot.Spot.{Spot}
use Rattle.plan_model.specs.Network.{Network, IsPlan}
use Rattle.plan_unused.specs.Met.{IsMet}
use Rattle.plan_unused.specs.Surveys.{IsLawfulSurvey}
use Rattle.plan_unused.specs.declared.survey.Survey.{Survey}
use Rattle.plan_unused.specs.declared.survey.Survey.TheVariants.{Unused, TooWide}
use Rattle.sccp_report.specs.Surveys.{HasGapsIn}
use Rattle.sccp_report.proofs.InPlan.{route_in}
use Rattle.sccp_report.proofs.InVerdict.{has_node}

-- a title that a route gets to is at a node of the plan
met_in : (plan : Network) (number : ℕ) (spot : Spot) → IsPlan plan → IsMet plan number spot → spot.node < length plan.nodes
met_in plan number spot is met =
    let hop : Hop = met.meets.1 in
    let hops = route_in plan met.start met.markings is (has_node plan number met.start is met.covered) met.meets.0 hop met.meets.2 in
    subst (λ (s : Spot). s.node < length plan.nodes) met.meets.4
    (subst (λ (h : Hop). h.spot.node < length plan.nodes) met.meets.3 hops.here)

-- the gaps of a lawful survey are in the plan that it is of
pub survey_in : (plan : Network) (survey : Survey) → IsPlan plan → IsLawfulSurvey plan survey → HasGapsIn plan survey
survey_in plan (Unused found) is lawful = λ k d lt.
    let gap = lawful.gaps.each k d lt in
    met_in plan (get_or found.gaps k d).cover (get_or found.gaps k d).spot is gap.0
survey_in plan TooWide is lawful = tt
