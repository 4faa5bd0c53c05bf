use Rattle.std.proofs.Common.{sym, ◌∙◌, ap, subst}
use Rattle.plan_verify.specs.Lawful.{IsLawful, AcceptsBelowLimit, plan_of}
use Rattle.plan_verify.specs.declared.verdict.Verdict.{Verdict}
use Rattle.sccp_replay.specs.Routings.{ahead}
use Rattle.sccp_replay.proofs.LaterSteps.{accepted_settles}
use Rattle.sccp_replay.proofs.settle.judge_later.Goals as goal

pub returns-in-Accepted-clause-gives : goal.returns-in-Accepted-clause-gives
returns-in-Accepted-clause-gives c =
    let e = c.in_ok-accepted.ensures in
    accepted_settles c.accept_later.result (ahead c.args.at.now c.args.coming.now) c.args.line c.args.name.now c.args.plan
    c.in-Accepted.accepted (ahead c.args.at.now c.accept_later.new.coming) (
      c.requires.plan,
      subst (IsLawful c.args.plan) c.in-Accepted.is e.lawful,
      subst (AcceptsBelowLimit c.args.plan) c.in-Accepted.is e.below,
    ) (ap plan_of (sym c.in-Accepted.is) ∙ e.same) c.accept_later.ensures.at c.accept_later.ensures.text

pub refuse_later-requires-in-TooWide-clause-lawful :
    goal.refuse_later-requires-in-TooWide-clause-lawful
refuse_later-requires-in-TooWide-clause-lawful c =
    subst (λ (v : Verdict). IsLawful (plan_of v) v) c.in-TooWide.is
    (subst (λ p. IsLawful p c.in_ok-accepted.field-0) (sym c.in_ok-accepted.ensures.same) c.in_ok-accepted.ensures.lawful)
