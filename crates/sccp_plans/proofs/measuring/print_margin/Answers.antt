use Rattle.sccp_report.proofs.InMargin.{margin_in}
use Rattle.sccp_plans.proofs.measuring.print_margin.Goals as goal

pub margin_text-requires : goal.margin_text-requires
margin_text-requires g c =
    margin_in c.args.plan.now c.args.limit.now.kinds c.args.number c.args.limit.now.most c.args.margin.now c.requires.plan c.requires.lawful
