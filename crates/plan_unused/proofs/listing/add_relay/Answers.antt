use Rattle.plan_unused.proofs.InOrder.{relays_more, relays_same}
use Rattle.plan_unused.proofs.listing.add_relay.Goals as goal

pub returns-then-has_relay : goal.returns-then-has_relay
returns-then-has_relay c =
    relays_same c.args.plan.now c.args.seen.now c.args.node c.args.found.now c.has_relay.result c.requires.seen c.has_relay.ensures
    c.if-has_relay.true c.requires.so_far

pub returns : goal.returns
returns c =
    relays_more c.args.plan.now c.args.seen.now c.args.node c.args.found.now c.push.new.self c.has_relay.result c.requires.node
    c.requires.whole c.has_relay.ensures c.if-has_relay.false c.in_ok-push.ensures.ok c.requires.so_far
