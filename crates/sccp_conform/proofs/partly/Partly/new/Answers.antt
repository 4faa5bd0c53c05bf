use Rattle.sccp_conform.proofs.PartlyLemmas.{begun}
use Rattle.sccp_conform.proofs.partly.Partly.new.Goals as goal

pub returns-in-Ok : goal.returns-in-Ok
returns-in-Ok c =
    begun c.args.plan.now c.in_ok-capture.capture c.in-Ok.watch c.new-in-Ok.result c.in_ok-capture.ensures c.in-Ok.ensures
    c.new-in-Ok.ensures
