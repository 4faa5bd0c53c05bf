use Rattle.sccp_conform.proofs.JudgingLemmas.{reported}
use Rattle.sccp_conform.proofs.judging.put_report.Goals as goal

pub returns-in-Ok : goal.returns-in-Ok
returns-in-Ok c =
    reported c.finish.result c.args.plan.now c.args.items.now c.in_ok-watch.watch c.put_items.new.watch c.args.text.now c.put_items.new.text
    c.finish.new.text c.vouch.ensures c.in_ok-watch.ensures c.in-Ok.ensures c.finish.ensures.text c.finish.ensures.status
