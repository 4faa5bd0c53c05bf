use Rattle.plan_unused.proofs.InOrder.{rows_more, rows_same}
use Rattle.plan_unused.proofs.listing.add_row.Goals as goal

pub returns-then-has_row : goal.returns-then-has_row
returns-then-has_row c =
    rows_same c.args.plan.now c.args.seen.now c.args.place.node c.args.place.row c.args.found.now c.has_row.result c.requires.seen
    c.has_row.ensures c.if-has_row.true c.requires.so_far

pub returns : goal.returns
returns c =
    rows_more c.args.plan.now c.args.seen.now c.args.place c.args.found.now c.push.new.self c.has_row.result c.requires.whole
    c.requires.place c.requires.relay c.has_row.ensures c.if-has_row.false c.in_ok-push.ensures.ok c.requires.so_far
