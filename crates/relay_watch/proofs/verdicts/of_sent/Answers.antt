use Rattle.relay_watch.proofs.WhyLemmas.{found_by, without_found}
use Rattle.relay_watch.proofs.verdicts.of_sent.Goals as goal

pub returns-in-Some : goal.returns-in-Some
returns-in-Some c =
    found_by c.args.sent.now.plan.now c.args.waiting.now c.args.answered.now c.args.sent.now.node c.args.sent.now.to
    c.args.sent.now.message.now c.args.address.now c.args.found
    c.in-Some.found c.of_found.result c.in-Some.is c.of_found.ensures

pub returns-in-None : goal.returns-in-None
returns-in-None c =
    without_found c.without_reason.result c.args.sent.now.plan.now c.args.waiting.now c.args.answered.now c.args.sent.now.node
    c.args.sent.now.to c.args.sent.now.message.now
    c.args.address.now c.args.found c.in-None.is c.without_reason.ensures
