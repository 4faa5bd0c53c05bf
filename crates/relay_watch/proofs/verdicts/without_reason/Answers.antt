use Rattle.std.proofs.Common.{◌≡◌, false, Option, sym, ◌∙◌, ap, subst}
use Rattle.std.specs.Prelude.{unwrap_or, IfSome}
use Rattle.relay_watch.specs.Kept.{is_unexplained}
use Rattle.relay_watch.specs.declared.verdict.Verdict.{Verdict}
use Rattle.relay_watch.specs.declared.verdict.Verdict.TheVariants.{Unexplained}
use Rattle.relay_watch.specs.declared.why.Why.TheVariants.{NoArrival}
use Rattle.relay_watch.proofs.WhyLemmas.{known_says}
use Rattle.relay_watch.proofs.verdicts.without_reason.Goals as goal

pub returns-in-Some : goal.returns-in-Some
returns-in-Some c = record {
  why = NoArrival;
  is = sym (ap (λ (o : Option Verdict). unwrap_or o (Unexplained NoArrival)) c.in-Some.is) ∙ c.of_another.ensures.value NoArrival;
  says = known_says c.args.sent.now.plan.now c.args.waiting.now c.args.answered.now c.args.sent.now.node c.args.sent.now.to
      c.args.sent.now.message.now c.in-Some.verdict
      (subst (λ (o : Option Verdict). IfSome o (λ v. is_unexplained v ≡ false)) c.in-Some.is c.of_another.ensures.known);
}

pub returns-in_ok-cause-in-None : goal.returns-in_ok-cause-in-None
returns-in_ok-cause-in-None c = record {
  why = c.in_ok-cause-in-None.cause;
  is = sym (ap (λ (o : Option Verdict). unwrap_or o (Unexplained c.in_ok-cause-in-None.cause)) c.in-None.is)
      ∙ c.of_another.ensures.value c.in_ok-cause-in-None.cause;
  says = c.in_ok-cause-in-None.ensures;
}
