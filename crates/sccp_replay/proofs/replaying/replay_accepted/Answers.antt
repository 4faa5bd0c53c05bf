use Rattle.std.proofs.Common.{◌∙◌, ap, List, ℕ, Ok, Err, refl, subst}
use Rattle.std.proofs.lemmas.Result.{err_from_is_err_and}
use Rattle.sccp_work.specs.Ending.{Works}
use Rattle.sccp_replay.specs.LaterPlans.{first_plan_line}
use Rattle.sccp_work.specs.Moment.{Moment, moment}
use Rattle.sccp_replay.specs.Replay.{Standing, start, trace_work}
use Rattle.sccp_replay.specs.Trace.{trace_of}
use Rattle.sccp_work.specs.Work.{Work, print, read}
use Rattle.sccp_work.specs.Writing.{Writes}
use Rattle.sccp_work.specs.declared.stop.Stop.TheVariants.{Memory}
use Rattle.sccp_work.proofs.WorkLemmas.{Works-memory, printed}
use Rattle.sccp_replay.proofs.replaying.replay_accepted.Goals as goal

pub returns-in_err-line : goal.returns-in_err-line
returns-in_err-line g c =
    let p = err_from_is_err_and c.from_residual.result c.from_residual.ensures.1 in
    let b : Moment = moment g.F.Files.contents g.F.Files.sound g.F.Files.faults g.K.Sink.taken g.K.Sink.faults c.args.files.now
    c.args.out.now in
    let work : Work = read c.args.asked.now.trace.now (λ octets. trace_work (start c.args.asked.now.workers.now.count c.args.accepted.plan)
    (trace_of octets)) in
    rw (p.1, p.2) (Works-memory (print (first_plan_line c.args.asked.now.plan.now c.args.accepted.bound) work) b)

pub returns-in_err-put_all : goal.returns-in_err-put_all
returns-in_err-put_all g c =
    let p = err_from_is_err_and c.from_residual-in_err-put_all.result c.from_residual-in_err-put_all.ensures.1 in
    let b : Moment = moment g.F.Files.contents g.F.Files.sound g.F.Files.faults g.K.Sink.taken g.K.Sink.faults c.args.files.now
    c.args.out.now in
    let m : Moment = moment g.F.Files.contents g.F.Files.sound g.F.Files.faults g.K.Sink.taken g.K.Sink.faults c.args.files.now
    c.put_all.new.out in
    let t : List ℕ = first_plan_line c.args.asked.now.plan.now c.args.accepted.bound in
    let work : Work = read c.args.asked.now.trace.now (λ octets. trace_work (start c.args.asked.now.workers.now.count c.args.accepted.plan)
    (trace_of octets)) in
    rw (p.1, p.2) (printed t work (Err c.in_err-put_all.field-0.0) b m
    (subst (λ s. Writes s (Err c.in_err-put_all.field-0.0) b.taken m.taken b.write_faults m.write_faults) (c.as_slice.ensures
    ∙ c.in_ok-line.ensures) c.in_err-put_all.ensures)
    (record { contents = refl; sound = refl; read_faults = refl }))

pub returns-in_err-at : goal.returns-in_err-at
returns-in_err-at g c =
    let p = err_from_is_err_and c.from_residual-in_err-at.result c.from_residual-in_err-at.ensures.1 in
    let b : Moment = moment g.F.Files.contents g.F.Files.sound g.F.Files.faults g.K.Sink.taken g.K.Sink.faults c.args.files.now
    c.args.out.now in
    let m : Moment = moment g.F.Files.contents g.F.Files.sound g.F.Files.faults g.K.Sink.taken g.K.Sink.faults c.args.files.now
    c.put_all.new.out in
    let t : List ℕ = first_plan_line c.args.asked.now.plan.now c.args.accepted.bound in
    let work : Work = read c.args.asked.now.trace.now (λ octets. trace_work (start c.args.asked.now.workers.now.count c.args.accepted.plan)
    (trace_of octets)) in
    rw (p.1, p.2) (printed t work (Ok tt) b m
    (subst (λ s. Writes {T = Unit {0}} s (Ok tt) b.taken m.taken b.write_faults m.write_faults) (c.as_slice.ensures
    ∙ c.in_ok-line.ensures) c.in_ok-put_all.ensures)
    (record { contents = refl; sound = refl; read_faults = refl }) (Err Memory) m (Works-memory work m))

pub replay_trace-answered-requires-clause-none : goal.replay_trace-answered-requires-clause-none
replay_trace-answered-requires-clause-none g c κs within = ap (λ (a : Standing). a.later) c.in_ok-at.ensures

pub returns : goal.returns
returns g c =
    let b : Moment = moment g.F.Files.contents g.F.Files.sound g.F.Files.faults g.K.Sink.taken g.K.Sink.faults c.args.files.now
    c.args.out.now in
    let m : Moment = moment g.F.Files.contents g.F.Files.sound g.F.Files.faults g.K.Sink.taken g.K.Sink.faults c.args.files.now
    c.put_all.new.out in
    let a : Moment = moment g.F.Files.contents g.F.Files.sound g.F.Files.faults g.K.Sink.taken g.K.Sink.faults
    c.replay_trace-answered.new.files c.replay_trace-answered.new.out in
    let t : List ℕ = first_plan_line c.args.asked.now.plan.now c.args.accepted.bound in
    let work : Work = read c.args.asked.now.trace.now (λ octets. trace_work (start c.args.asked.now.workers.now.count c.args.accepted.plan)
    (trace_of octets)) in
    printed t work (Ok tt) b m
    (subst (λ s. Writes {T = Unit {0}} s (Ok tt) b.taken m.taken b.write_faults m.write_faults) (c.as_slice.ensures
    ∙ c.in_ok-line.ensures) c.in_ok-put_all.ensures)
    (record { contents = refl; sound = refl; read_faults = refl }) c.replay_trace-answered.result a
    (subst (λ at. Works (read c.args.asked.now.trace.now (λ octets. trace_work at (trace_of octets))) c.replay_trace-answered.result m a)
    (c.in_ok-at.ensures ∙ ap (λ n. start n c.args.accepted.plan) c.count.ensures.value) c.replay_trace-answered.ensures)
