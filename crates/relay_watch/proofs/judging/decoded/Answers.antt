use Rattle.relay_watch.proofs.Said.{if_called, said_connection}
use Rattle.relay_watch.proofs.judging.decoded.Goals as goal

pub returns-in-Some-clause-said : goal.returns-in-Some-clause-said
returns-in-Some-clause-said c =
    if_called c.addressed.result c.args.plan.now c.args.waiting.now c.args.answered.now c.args.event.now c.args.message.now
    c.in-Some.address.now
    c.in-Some.ensures c.addressed.ensures.said

pub returns-in-None-clause-said : goal.returns-in-None-clause-said
returns-in-None-clause-said c =
    said_connection c.args.plan.now c.args.waiting.now c.args.answered.now c.args.event.now c.args.message.now c.only.result
    c.in-None.ensures
    c.only.ensures.verdict c.only.ensures.place c.only.ensures.begins c.only.ensures.other
