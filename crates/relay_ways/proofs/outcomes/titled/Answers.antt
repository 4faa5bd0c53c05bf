use Rattle.std.proofs.Common.{◌≡◌, List, Option, sym, ◌∙◌, subst, IfOk}
use Rattle.plan_model.specs.declared.spot.Spot.{Spot}
use Rattle.relay_ways.specs.Outcomes.{titled, outcome_conditions}
use Rattle.relay_ways.specs.Turns.{turns_of}
use Rattle.relay_ways.specs.declared.condition.Condition.{Condition}
use Rattle.relay_ways.proofs.TurnConditions.{conditions_turned}
use Rattle.relay_ways.proofs.outcomes.titled.Goals as goal

pub returns-in-Some : goal.returns-in-Some
returns-in-Some c origin m =
    subst (λ (o : Option Spot). IfOk c.turn_conditions.result (λ found. found
    ≡ outcome_conditions (titled c.args.plan.now c.args.node origin m c.args.address.now o)))
    (sym c.in-Some.is ∙ c.spot.ensures.value)
    (subst (λ (cs : List Condition). IfOk c.turn_conditions.result (λ found. found ≡ cs))
    (sym (conditions_turned c.args.plan.now c.args.node origin m c.args.address.now (turns_of c.args.plan.now c.in-Some.spot)))
    c.turn_conditions.ensures)
