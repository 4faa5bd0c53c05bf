use Rattle.std.proofs.Common.{Err, refl}
use Rattle.std.proofs.lemmas.Result.{err_from_is_err_and}
use Rattle.sccp_plans.specs.Unused.{survey_work}
use Rattle.sccp_work.specs.Moment.{Moment, moment}
use Rattle.sccp_work.specs.declared.stop.Stop.TheVariants.{Memory}
use Rattle.sccp_work.proofs.WorkLemmas.{Works-memory}
use Rattle.sccp_plans.proofs.UnusedLemmas.{Works-survey}
use Rattle.sccp_plans.proofs.surveying.unused.Goals as goal

pub returns-in_err-answer : goal.returns-in_err-answer
returns-in_err-answer g c =
    let p = err_from_is_err_and c.from_residual-in_err-answer.result c.from_residual-in_err-answer.ensures.1 in
    let m : Moment = moment g.F.Files.contents g.F.Files.sound g.F.Files.faults g.K.Sink.taken g.K.Sink.faults c.with_plan.new.files
    c.with_plan.new.out in
    rw (p.1, p.2) (c.in_ok-plan.ensures.plan survey_work (Err Memory) m (Works-memory (survey_work c.in_ok-plan.plan) m))

pub returns : goal.returns
returns g c =
    let m : Moment = moment g.F.Files.contents g.F.Files.sound g.F.Files.faults g.K.Sink.taken g.K.Sink.faults c.with_plan.new.files
    c.with_plan.new.out in
    let a : Moment = moment g.F.Files.contents g.F.Files.sound g.F.Files.faults g.K.Sink.taken g.K.Sink.faults c.with_plan.new.files
    c.print_last.new.out in
    let w = c.print_last.ensures in
    c.in_ok-plan.ensures.plan survey_work c.print_last.result a
    (Works-survey c.in_ok-plan.plan c.in_ok-answer.answer.status c.as_slice.result.now c.in_ok-answer.answer.text c.print_last.result m a
    c.in_ok-answer.ensures c.as_slice.ensures w.text w.answer refl refl refl)
