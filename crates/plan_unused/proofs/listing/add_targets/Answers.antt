use Rattle.plan_unused.proofs.InOrder.{targets_next, place_there}
use Rattle.plan_unused.proofs.listing.add_targets.Goals as goal

pub add_row_targets-requires-clause-place : goal.add_row_targets-requires-clause-place
add_row_targets-requires-clause-place c =
    place_there c.args.plan.now c.args.node c.loop-row.row _ c.row_count-row-end.ensures c.loop-row-test.true

pub returns : goal.returns
returns c =
    targets_next c.args.plan.now c.args.node c.loop-row.row _ c.loop-row.found c.row_count-row-end.ensures c.loop-row-test.false
    c.loop-row.invariant
