use Rattle.std.proofs.Common.{sym, ◌∙◌}
use Rattle.relay_watch.proofs.WhyLemmas.{sent_by, unsent_by}
use Rattle.relay_watch.proofs.verdicts.verdict_by.Goals as goal

pub returns-in-Some : goal.returns-in-Some
returns-in-Some c =
    sent_by c.of_sent.result c.args.captured.now.plan.now c.args.waiting.now c.args.answered.now c.args.captured.now.event.now
    c.in-Some.node c.args.captured.now.message.now
    c.args.captured.now.address.now c.args.found _ (sym c.relay_at.ensures.value ∙ c.in-Some.is) c.of_sent.ensures

pub returns-in-None : goal.returns-in-None
returns-in-None c =
    unsent_by c.args.captured.now.plan.now c.args.waiting.now c.args.answered.now c.args.captured.now.event.now
    c.args.captured.now.message.now c.args.captured.now.address.now c.args.found _
    c.of_unsent.result (sym c.relay_at.ensures.value ∙ c.in-None.is) c.of_unsent.ensures
