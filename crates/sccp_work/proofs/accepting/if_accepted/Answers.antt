use Rattle.std.proofs.Common.{subst}
use Rattle.plan_verify.specs.Lawful.{IsLawful, AcceptsBelowLimit}
use Rattle.plan_verify.specs.declared.verdict.Verdict.{Verdict}
use Rattle.plan_verify.specs.declared.verdict.Verdict.TheVariants as verdicts
use Rattle.sccp_work.specs.Accepting.{accepted_on}
use Rattle.sccp_work.specs.Moment.{with_sink}
use Rattle.sccp_work.specs.Questions.{verdict_on}
use Rattle.sccp_work.proofs.WorkLemmas.{Works-ask}
use Rattle.sccp_work.proofs.accepting.if_accepted.Goals as goal

pub returns-in-Accepted-clause-goes_on : goal.returns-in-Accepted-clause-goes_on
returns-in-Accepted-clause-goes_on g c = λ any next result after w.
    let verdict : Verdict = verdicts.Accepted c.in-Accepted.accepted in
    Works-ask (verdict_on c.args.plan) (accepted_on c.args.word.now next c.args.plan) verdict result
    (with_sink any g.K.Sink.taken g.K.Sink.faults c.args.out.now) after (
      c.requires,
      subst (IsLawful c.args.plan) c.in-Accepted.is c.in_ok-verdict.ensures.lawful,
      subst (AcceptsBelowLimit c.args.plan) c.in-Accepted.is c.in_ok-verdict.ensures.below,
    )
    w
