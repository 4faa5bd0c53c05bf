use Rattle.std.proofs.Common.{◌∙◌, subst, refl, Err}
use Rattle.std.proofs.lemmas.Result.{err_from_is_err_and}
use Rattle.sccp_plans.specs.Margin.{each_margin, margin_work}
use Rattle.sccp_plans.specs.MarginTallies.{margin_status, margin_line}
use Rattle.sccp_work.specs.Ending.{Works}
use Rattle.sccp_work.specs.Moment.{Moment, moment}
use Rattle.sccp_work.specs.Work.{answered}
use Rattle.sccp_work.specs.declared.stop.Stop.TheVariants.{Memory}
use Rattle.sccp_work.proofs.WorkLemmas.{Works-memory}
use Rattle.sccp_plans.proofs.MarginLemmas.{Works-margins}
use Rattle.sccp_plans.proofs.measuring.margin.Goals as goal

pub returns-in_err-accepted : goal.returns-in_err-accepted
returns-in_err-accepted g c =
    let p = err_from_is_err_and c.from_residual.result c.from_residual.ensures.1 in
    rw (p.1, p.2) (c.in_err-accepted.ensures (each_margin c.args.losses.now.limit))

pub returns-in_err-tally : goal.returns-in_err-tally
returns-in_err-tally g c =
    let p = err_from_is_err_and c.from_residual-in_err-tally.result c.from_residual-in_err-tally.ensures.1 in
    let b : Moment = moment g.F.Files.contents g.F.Files.sound g.F.Files.faults g.K.Sink.taken g.K.Sink.faults c.args.files.now
    c.args.out.now in
    let n : Moment = moment g.F.Files.contents g.F.Files.sound g.F.Files.faults g.K.Sink.taken g.K.Sink.faults c.with_accepted.new.files
    c.with_accepted.new.out in
    let m : Moment = moment g.F.Files.contents g.F.Files.sound g.F.Files.faults g.K.Sink.taken g.K.Sink.faults c.with_accepted.new.files
    c.measure_covers-tally.new.out in
    let losses = c.limit-limit.result.now in
    let stop = c.in_err-tally.field-0.0 in
    rw (p.1, p.2) (subst (λ l. Works (margin_work c.args.file.now l) (Err stop) b m) c.limit-limit.ensures.value
    (c.in_ok-accepted.ensures (each_margin losses) (Err stop) m
    (subst (λ plan. Works (each_margin losses plan) (Err stop) n m) c.plan.ensures.value (c.in_err-tally.ensures n))))

pub returns-in_err-line : goal.returns-in_err-line
returns-in_err-line g c =
    let p = err_from_is_err_and c.from_residual-in_err-line.result c.from_residual-in_err-line.ensures.1 in
    let b : Moment = moment g.F.Files.contents g.F.Files.sound g.F.Files.faults g.K.Sink.taken g.K.Sink.faults c.args.files.now
    c.args.out.now in
    let n : Moment = moment g.F.Files.contents g.F.Files.sound g.F.Files.faults g.K.Sink.taken g.K.Sink.faults c.with_accepted.new.files
    c.with_accepted.new.out in
    let m : Moment = moment g.F.Files.contents g.F.Files.sound g.F.Files.faults g.K.Sink.taken g.K.Sink.faults c.with_accepted.new.files
    c.measure_covers-tally.new.out in
    let losses = c.limit-limit.result.now in
    let tally = c.in_ok-tally.tally in
    rw (p.1, p.2) (subst (λ l. Works (margin_work c.args.file.now l) (Err Memory) b m) c.limit-limit.ensures.value
    (c.in_ok-accepted.ensures (each_margin losses) (Err Memory) m
    (subst (λ plan. Works (each_margin losses plan) (Err Memory) n m) c.plan.ensures.value
    (c.in_ok-tally.ensures n (Err Memory) m (Works-memory (answered (margin_status tally, margin_line losses.most tally)) m)))))

pub returns : goal.returns
returns g c =
    let b : Moment = moment g.F.Files.contents g.F.Files.sound g.F.Files.faults g.K.Sink.taken g.K.Sink.faults c.args.files.now
    c.args.out.now in
    let n : Moment = moment g.F.Files.contents g.F.Files.sound g.F.Files.faults g.K.Sink.taken g.K.Sink.faults c.with_accepted.new.files
    c.with_accepted.new.out in
    let m : Moment = moment g.F.Files.contents g.F.Files.sound g.F.Files.faults g.K.Sink.taken g.K.Sink.faults c.with_accepted.new.files
    c.measure_covers-tally.new.out in
    let a : Moment = moment g.F.Files.contents g.F.Files.sound g.F.Files.faults g.K.Sink.taken g.K.Sink.faults c.with_accepted.new.files
    c.print_last.new.out in
    let losses = c.limit-limit.result.now in
    let tally = c.in_ok-tally.tally in
    subst (λ l. Works (margin_work c.args.file.now l) c.print_last.result b a) c.limit-limit.ensures.value
    (c.in_ok-accepted.ensures (each_margin losses) c.print_last.result a
    (subst (λ plan. Works (each_margin losses plan) c.print_last.result n a) c.plan.ensures.value
    (c.in_ok-tally.ensures n c.print_last.result a
    (Works-margins losses tally c.status.result c.as_slice.result.now c.print_last.result m a c.status.ensures
    (c.as_slice.ensures ∙ c.in_ok-line.ensures) c.print_last.ensures.text c.print_last.ensures.answer refl refl refl))))
