use Rattle.relay_watch.proofs.Repeated.{repeat_near}
use Rattle.relay_watch.proofs.whys.with_near.Goals as goal

pub returns-then-is_repeat : goal.returns-then-is_repeat
returns-then-is_repeat c =
    repeat_near c.args.sent.now.plan.now c.args.sent.now.node c.args.sent.now.to c.args.sent.now.message.now c.args.earlier.now c.args.best
    c.args.arrival.now (c.is_repeat.ensures c.if-is_repeat.true) c.requires
