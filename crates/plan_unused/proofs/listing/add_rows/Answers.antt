use Rattle.std.proofs.Common.{◌∙◌, sym}
use Rattle.plan_unused.proofs.InOrder.{rows_skip, rows_end, place_there}
use Rattle.plan_unused.proofs.listing.add_rows.Goals as goal

pub returns-then-not-has_relay : goal.returns-then-not-has_relay
returns-then-not-has_relay c =
    rows_skip c.args.plan.now c.args.seen.now c.args.node c.args.found.now c.has_relay.result c.requires.whole c.has_relay.ensures
    c.if-not-has_relay.true c.requires.so_far

pub add_row-requires-clause-place : goal.add_row-requires-clause-place
add_row-requires-clause-place c =
    place_there c.args.plan.now c.args.node c.loop-row.row _ c.row_count-row-end.ensures c.loop-row-test.true

pub add_row-requires-clause-relay : goal.add_row-requires-clause-relay
add_row-requires-clause-relay c = c.requires.seen.relays c.args.node (sym c.has_relay.ensures ∙ c.if-not-has_relay.false)

pub returns : goal.returns
returns c =
    rows_end c.args.plan.now c.args.node c.loop-row.row _ c.loop-row.found c.row_count-row-end.ensures c.loop-row-test.false
    c.loop-row.invariant
