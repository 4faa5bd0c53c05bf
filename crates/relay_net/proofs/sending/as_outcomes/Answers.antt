use Rattle.std.proofs.Common.{◌∙◌, ap, length, arith}
use Rattle.std.proofs.lemmas.Iterator.Adapters.{YieldsList-from_vec}
use Rattle.std.proofs.lemmas.Iterator.Consumers.{YieldsList-turn}
use Rattle.relay_net.proofs.sending.as_outcomes.Goals as goal

pub push_reserved-requires : goal.push_reserved-requires
push_reserved-requires c =
    let v = c.into_vec-message-items in
    let it = c.into_iter-message-iterator in
    let t = YieldsList-turn (YieldsList-from_vec {s = it.result} c.args.sent (it.ensures.into_iter_gives.0
    ∙ v.ensures) (it.ensures.into_iter_gives.1 ∙ v.result.ok.0
    ∙ ap length v.ensures)) c.loop-message.yielded c.loop-message.message-iterator c.loop-message.yielded_by _ c.next.new.self
    c.in-Some.message c.in-Some.is c.next.ensures.steps in
    omega (arith, t.0, c.loop-message.invariant.count, c.loop-message.invariant.room)
