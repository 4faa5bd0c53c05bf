use Rattle.plan_unused.proofs.InOrder.{targets_more, targets_same}
use Rattle.plan_unused.proofs.listing.add_target.Goals as goal

pub returns-then-has_target : goal.returns-then-has_target
returns-then-has_target c =
    targets_same c.args.plan.now c.args.seen.now c.args.place.node c.args.place.row c.args.place.target c.args.found.now c.has_target.result
    c.requires.seen c.has_target.ensures c.if-has_target.true c.requires.so_far

pub returns : goal.returns
returns c =
    targets_more c.args.plan.now c.args.seen.now c.args.place c.args.found.now c.push.new.self c.has_target.result c.requires.whole
    c.requires.place c.requires.row c.has_target.ensures c.if-has_target.false c.in_ok-push.ensures.ok c.requires.so_far
