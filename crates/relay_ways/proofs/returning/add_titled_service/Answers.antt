use Rattle.std.proofs.Common.{◌≡◌, ◌++◌, List, Option, Some, ◌∙◌, subst, sym}
use Rattle.std.specs.Prelude.{OnOk}
use Rattle.std.specs.List.{flat_map}
use Rattle.plan_model.specs.declared.spot.Spot.{Spot}
use Rattle.sccp_scrc.specs.Arriving.{point_of}
use Rattle.relay_ways.specs.Candidates.{outcome_going_on}
use Rattle.relay_ways.specs.Outcomes.{titled}
use Rattle.relay_ways.specs.Turns.{turns_of}
use Rattle.relay_ways.specs.declared.candidate.Candidate.{Candidate}
use Rattle.relay_ways.proofs.StepLemmas.{titled_going_on}
use Rattle.relay_ways.proofs.returning.add_titled_service.Goals as goal

pub returns-in-Some : goal.returns-in-Some
returns-in-Some c m reads =
    subst (λ (o : Option Spot). OnOk c.add_service_steps.result (c.add_service_steps.new.found ≡ c.args.found.now
    ++ flat_map (outcome_going_on (Some c.args.service.now.cause))
    (titled c.args.service.now.plan.now c.args.service.now.node
    (point_of c.args.service.now.plan.now c.args.service.now.node) m c.args.address.now o)))
    (sym c.in-Some.is ∙ c.spot.ensures.value)
    (subst (λ (xs : List Candidate). OnOk c.add_service_steps.result (c.add_service_steps.new.found ≡ c.args.found.now ++ xs))
    (titled_going_on c.args.service.now.plan.now c.args.service.now.node c.args.service.now.cause m c.args.address.now
    (turns_of c.args.service.now.plan.now c.in-Some.spot))
    (c.add_service_steps.ensures m reads))
