use Rattle.std.proofs.Common.{Err, refl}
use Rattle.std.proofs.lemmas.Result.{err_from_is_err_and}
use Rattle.sccp_plans.specs.Change.{mixed_work}
use Rattle.sccp_plans.specs.TwoPlans.{old_word, new_word}
use Rattle.sccp_work.specs.AcceptedPlan.{with_accepted}
use Rattle.sccp_work.specs.Moment.{Moment, moment}
use Rattle.sccp_work.specs.declared.stop.Stop.TheVariants.{Memory}
use Rattle.sccp_plans.proofs.ChangeLemmas.{Works-mixed}
use Rattle.sccp_work.proofs.WorkLemmas.{Works-memory}
use Rattle.sccp_plans.proofs.changing.change.Goals as goal

pub returns-in-Err : goal.returns-in-Err
unfolding old_word new_word
returns-in-Err g c =
    let m : Moment = moment g.F.Files.contents g.F.Files.sound g.F.Files.faults g.K.Sink.taken g.K.Sink.faults c.with_accepted-2.new.files
    c.with_accepted-2.new.out in
    c.in_ok-first.ensures (λ p. with_accepted new_word c.args.new.now (λ q. mixed_work p q)) (Err c.in-Err.stop) m
    (c.in-Err.ensures (λ q. mixed_work c.in_ok-first.first.plan q))

pub returns-in_err-answer-in-Ok : goal.returns-in_err-answer-in-Ok
unfolding old_word new_word
returns-in_err-answer-in-Ok g c =
    let p = err_from_is_err_and c.from_residual-in_err-answer-in-Ok.result c.from_residual-in_err-answer-in-Ok.ensures.1 in
    let m : Moment = moment g.F.Files.contents g.F.Files.sound g.F.Files.faults g.K.Sink.taken g.K.Sink.faults c.with_accepted-2.new.files
    c.with_accepted-2.new.out in
    rw (p.1, p.2) (c.in_ok-first.ensures (λ p. with_accepted new_word c.args.new.now (λ q. mixed_work p q)) (Err Memory) m
    (c.in-Ok.ensures (λ q. mixed_work c.in_ok-first.first.plan q) (Err Memory) m
    (Works-memory (mixed_work c.in_ok-first.first.plan c.in-Ok.second.plan) m)))

pub returns-in_ok-answer-in-Ok : goal.returns-in_ok-answer-in-Ok
unfolding old_word new_word
returns-in_ok-answer-in-Ok g c =
    let m : Moment = moment g.F.Files.contents g.F.Files.sound g.F.Files.faults g.K.Sink.taken g.K.Sink.faults c.with_accepted-2.new.files
    c.with_accepted-2.new.out in
    let a : Moment = moment g.F.Files.contents g.F.Files.sound g.F.Files.faults g.K.Sink.taken g.K.Sink.faults c.with_accepted-2.new.files
    c.print_last.new.out in
    let w = c.print_last.ensures in
    c.in_ok-first.ensures (λ p. with_accepted new_word c.args.new.now (λ q. mixed_work p q)) c.print_last.result a
    (c.in-Ok.ensures (λ q. mixed_work c.in_ok-first.first.plan q) c.print_last.result a
    (Works-mixed c.in_ok-first.first.plan c.in-Ok.second.plan c.in_ok-answer-in-Ok.answer.status c.as_slice.result.now
    c.in_ok-answer-in-Ok.answer.text c.print_last.result m a c.in_ok-answer-in-Ok.ensures c.as_slice.ensures w.text w.answer refl
    refl refl))
