use Rattle.std.proofs.Common.{sym, subst}
use Rattle.sccp_report.proofs.InVerdict.{lawful_in}
use Rattle.sccp_report.specs.Verdicts.{HasHopsIn}
use Rattle.plan_verify.specs.Lawful.{plan_of}
use Rattle.sccp_plans.proofs.each_cover.print_verdict.Goals as goal

pub cover_text-requires : goal.cover_text-requires
cover_text-requires g c =
    subst (λ plan. HasHopsIn plan c.args.verdict.now) (sym c.plan_of.ensures)
    (lawful_in (plan_of c.args.verdict.now) c.args.verdict.now c.requires.plan c.requires.lawful)
