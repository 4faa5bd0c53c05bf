use Rattle.relay_ways.proofs.StepLemmas.{row_steps}
use Rattle.relay_ways.proofs.turn_steps.of_targets.Goals as goal

pub returns-clause-value : goal.returns-clause-value
returns-clause-value c =
    row_steps c.args.plan.now c.args.node.now c.args.spot.now c.args.targets.now c.new-found.result c.add_taken.new.found
    c.add_all_closed.new.found
    c.new-found.ensures c.in_ok-add_taken.ensures.value c.in_ok-add_all_closed.ensures.value
