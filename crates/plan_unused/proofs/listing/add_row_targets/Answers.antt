use Rattle.std.proofs.Common.{◌∙◌, sym}
use Rattle.plan_unused.proofs.InOrder.{targets_skip, targets_end, target_there}
use Rattle.plan_unused.proofs.listing.add_row_targets.Goals as goal

pub returns-then-not-has_row : goal.returns-then-not-has_row
returns-then-not-has_row c =
    targets_skip c.args.plan.now c.args.seen.now c.args.place c.args.found.now c.has_row.result c.requires.whole c.has_row.ensures
    c.if-not-has_row.true c.requires.so_far

pub add_target-requires-clause-place : goal.add_target-requires-clause-place
add_target-requires-clause-place c =
    target_there c.args.plan.now c.args.place c.loop-target.target _ c.target_count-target-end.ensures c.loop-target-test.true

pub add_target-requires-clause-row : goal.add_target-requires-clause-row
add_target-requires-clause-row c = c.requires.seen.rows c.args.place (sym c.has_row.ensures ∙ c.if-not-has_row.false)

pub returns : goal.returns
returns c =
    targets_end c.args.plan.now c.args.place c.loop-target.target _ c.loop-target.found c.target_count-target-end.ensures
    c.loop-target-test.false c.loop-target.invariant
