use Rattle.std.proofs.Common.{ℕ, Option, refl, subst}
use Rattle.std.specs.Prelude.{IfOk, None}
use Rattle.relay_watch.specs.Judging.{IsFoundAt}
use Rattle.relay_watch.proofs.judging.reason_of.Goals as goal

pub returns-in-Some : goal.returns-in-Some
returns-in-Some c =
    subst (λ (o : Option ℕ). IfOk c.search.result
    (λ found. IsFoundAt c.args.captured.now.plan.now c.args.waiting.now c.args.captured.now.event.now c.args.captured.now.message.now
    found o)) c.in-Some.ensures.value c.search.ensures

pub returns-in-None : goal.returns-in-None
returns-in-None c =
    subst (λ (o : Option ℕ). IsFoundAt c.args.captured.now.plan.now c.args.waiting.now c.args.captured.now.event.now
    c.args.captured.now.message.now None o)
    c.in-None.ensures.value refl
