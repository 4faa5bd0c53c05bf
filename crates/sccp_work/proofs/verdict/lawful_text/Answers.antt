use Rattle.sccp_report.proofs.InVerdict.{lawful_in}
use Rattle.sccp_work.proofs.verdict.lawful_text.Goals as goal

pub verdict_text-requires-clause-hops : goal.verdict_text-requires-clause-hops
verdict_text-requires-clause-hops c = lawful_in c.args.plan.now c.args.verdict.now c.requires.plan c.requires.lawful
