use Rattle.std.proofs.Common.{[], Err, refl, subst}
use Rattle.std.proofs.lemmas.Result.{err_from_is_err_and}
use Rattle.made_load.specs.Loads.{load_counts}
use Rattle.plan_check.specs.Verified.{Verified}
use Rattle.sccp_tool.specs.Load.{counts_text}
use Rattle.sccp_work.specs.Accepting.{if_accepted}
use Rattle.sccp_work.specs.Ending.{Works}
use Rattle.sccp_work.specs.Moment.{Moment, with_sink}
use Rattle.sccp_work.specs.Work.{Work, answered}
use Rattle.sccp_work.specs.Writing.{Writes}
use Rattle.sccp_work.specs.declared.status.Status.TheVariants.{Done}
use Rattle.sccp_work.specs.declared.stop.Stop.TheVariants.{Memory}
use Rattle.sccp_work.proofs.WorkLemmas.{Works-answered, Works-memory}
use Rattle.sccp_tool.proofs.load.load.Goals as goal

pub returns-in_err-accepted : goal.returns-in_err-accepted
returns-in_err-accepted g c = λ any.
    let p = err_from_is_err_and c.from_residual-in_err-accepted.result c.from_residual-in_err-accepted.ensures.1 in
    let b : Moment = with_sink any g.K.Sink.taken g.K.Sink.faults c.args.out.now in
    let m : Moment = with_sink any g.K.Sink.taken g.K.Sink.faults c.if_accepted.new.out in
    let next : Verified → Work = λ accepted. answered (Done, counts_text (load_counts c.args.number c.args.size)) in
    rw (p.1, p.2) (subst (λ q. Works (if_accepted [] q next) (Err c.in_err-accepted.field-0.0) b m) c.in_ok-plan.ensures.plan
    (c.in_err-accepted.ensures.goes_on any next))

pub returns-in_err-counted : goal.returns-in_err-counted
returns-in_err-counted g c = λ any.
    let p = err_from_is_err_and c.from_residual-in_err-counted.result c.from_residual-in_err-counted.ensures.1 in
    let b : Moment = with_sink any g.K.Sink.taken g.K.Sink.faults c.args.out.now in
    let m : Moment = with_sink any g.K.Sink.taken g.K.Sink.faults c.if_accepted.new.out in
    let next : Verified → Work = λ accepted. answered (Done, counts_text (load_counts c.args.number c.args.size)) in
    rw (p.1, p.2) (subst (λ q. Works (if_accepted [] q next) (Err Memory) b m) c.in_ok-plan.ensures.plan
    (c.in_ok-accepted.ensures.goes_on any next (Err Memory) m (Works-memory (next c.in_ok-accepted.accepted) m)))

pub returns : goal.returns
returns g c = λ any.
    let b : Moment = with_sink any g.K.Sink.taken g.K.Sink.faults c.args.out.now in
    let m : Moment = with_sink any g.K.Sink.taken g.K.Sink.faults c.if_accepted.new.out in
    let a : Moment = with_sink any g.K.Sink.taken g.K.Sink.faults c.print_counts.new.out in
    let next : Verified → Work = λ accepted. answered (Done, counts_text (load_counts c.args.number c.args.size)) in
    let text = subst (λ k. Writes (counts_text k) c.print_counts.result m.taken a.taken m.write_faults a.write_faults)
    c.in_ok-counted.ensures c.print_counts.ensures.text in
    subst (λ q. Works (if_accepted [] q next) c.print_counts.result b a) c.in_ok-plan.ensures.plan
    (c.in_ok-accepted.ensures.goes_on any next c.print_counts.result a
    (Works-answered (Done, counts_text (load_counts c.args.number c.args.size)) c.print_counts.result m a (λ cut. cut) text
    c.print_counts.ensures.answer refl refl refl))
