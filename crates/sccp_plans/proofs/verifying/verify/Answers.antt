use Rattle.std.proofs.Common.{sym, ap, subst, refl, Err}
use Rattle.std.proofs.lemmas.Result.{err_from_is_err_and}
use Rattle.plan_model.specs.Network.{IsPlan}
use Rattle.plan_verify.specs.Lawful.{IsLawful, plan_of}
use Rattle.sccp_report.specs.Verdicts.{verdict_text}
use Rattle.sccp_work.specs.Moment.{Moment, moment}
use Rattle.sccp_work.specs.Verdict.{status_of}
use Rattle.sccp_work.specs.declared.stop.Stop.TheVariants.{Memory}
use Rattle.sccp_work.proofs.VerdictLemmas.{judged_work, Works-verdict}
use Rattle.sccp_work.proofs.WorkLemmas.{Works-memory}
use Rattle.sccp_plans.proofs.verifying.verify.Goals as goal

pub returns-in_err-verdict : goal.returns-in_err-verdict
returns-in_err-verdict g c =
    let p = err_from_is_err_and c.from_residual-in_err-verdict.result c.from_residual-in_err-verdict.ensures.1 in
    let m : Moment = moment g.F.Files.contents g.F.Files.sound g.F.Files.faults g.K.Sink.taken g.K.Sink.faults c.with_plan.new.files
    c.with_plan.new.out in
    rw (p.1, p.2) (c.in_ok-plan.ensures.plan judged_work (Err Memory) m (Works-memory (judged_work c.in_ok-plan.plan) m))

pub tell_verdict-told-requires-clause-plan : goal.tell_verdict-told-requires-clause-plan
tell_verdict-told-requires-clause-plan g c = subst IsPlan (sym c.in_ok-verdict.ensures.same) c.in_ok-plan.ensures.sound

pub tell_verdict-told-requires-clause-lawful : goal.tell_verdict-told-requires-clause-lawful
tell_verdict-told-requires-clause-lawful g c = subst (λ p. IsLawful p c.in_ok-verdict.verdict)
    (sym c.in_ok-verdict.ensures.same) c.in_ok-verdict.ensures.lawful

pub returns : goal.returns
returns g c =
    let m : Moment = moment g.F.Files.contents g.F.Files.sound g.F.Files.faults g.K.Sink.taken g.K.Sink.faults c.with_plan.new.files
    c.with_plan.new.out in
    let a : Moment = moment g.F.Files.contents g.F.Files.sound g.F.Files.faults g.K.Sink.taken g.K.Sink.faults c.with_plan.new.files
    c.tell_verdict-told.new.out in
    let given = c.in_ok-plan.ensures in
    let e = c.in_ok-verdict.ensures in
    let v = c.in_ok-verdict.verdict in
    let told = c.tell_verdict-told.ensures in
    given.plan judged_work c.tell_verdict-told.result a
    (Works-verdict c.in_ok-plan.plan v (status_of v) (verdict_text (plan_of v) v) c.tell_verdict-told.result m a
    (given.sound, e.lawful, e.below) refl (ap (λ p. verdict_text p v) e.same) told.text told.answer refl refl refl)
