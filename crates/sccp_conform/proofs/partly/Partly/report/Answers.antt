use Rattle.sccp_conform.proofs.PartlyLemmas.{reported}
use Rattle.sccp_conform.specs.declared.report.Report.{Report}
use Rattle.sccp_conform.proofs.partly.Partly.report.Goals as goal

pub returns : goal.returns
returns c = λ h all.
    let r : Report = record { status = c.answer_for.result; text = c.into_octets.result } in
    reported c.args.plan.now h c.args.ending c.args.self.watch c.args.self.text c.finish.new.text c.in_ok-status.status r c.vouch.ensures
    c.in_ok-status.ensures.text c.in_ok-status.ensures.status c.answer_for.ensures c.into_octets.ensures all
