use Rattle.std.proofs.Common.{List, ℕ, ◌∙◌, refl, ap, subst, Err}
use Rattle.std.proofs.lemmas.Result.{err_from_is_err_and}
use Rattle.sccp_report.specs.Limits.{too_long_line}
use Rattle.sccp_work.specs.Ending.{Works, early}
use Rattle.sccp_work.specs.Limit.{GivesWhole, within_limit}
use Rattle.sccp_work.specs.Moment.{Moment, moment}
use Rattle.sccp_work.specs.PlanFile.{PlanFile, plan_file}
use Rattle.sccp_work.specs.Reading.{GivesFile}
use Rattle.sccp_work.specs.Work.{Work, answered}
use Rattle.sccp_work.specs.Writing.{Writes}
use Rattle.sccp_work.specs.declared.status.Status.TheVariants.{TooLong}
use Rattle.sccp_work.specs.declared.stop.Stop.TheVariants.{Memory}
use Rattle.sccp_work.proofs.LimitLemmas.{file_or_answer, same_file, Works-long, Works-within}
use Rattle.sccp_work.proofs.WorkLemmas.{Works-answered, Works-early, Works-memory, Works-reading}
use Rattle.sccp_work.proofs.limit.within_limit.Goals as goal

pub returns-in_err-octets-clause-whole : goal.returns-in_err-octets-clause-whole
returns-in_err-octets-clause-whole g c =
    let e = c.in_err-octets.ensures.reads in
    let p = err_from_is_err_and c.from_residual.result c.from_residual.ensures.1 in
    let file : PlanFile = plan_file c.name.result.now c.limits-limits.result in
    let b : Moment = moment g.F.Files.contents g.F.Files.sound g.F.Files.faults g.K.Sink.taken g.K.Sink.faults c.args.files.now
    c.args.out.now in
    let m : Moment = moment g.F.Files.contents g.F.Files.sound g.F.Files.faults g.K.Sink.taken g.K.Sink.faults c.read_whole.new.files
    c.args.out.now in
    rw (p.1, p.2)
    (subst (λ f. (next : List ℕ → Work) → Works (within_limit f next) (Err c.in_err-octets.field-0.0) b m)
    (same_file c.args.file.now c.name.result.now c.limits-limits.result c.name.ensures c.limits-limits.ensures)
    (λ next. Works-reading file.name (file_or_answer file.limits next) c.in_err-octets.field-0.0 b m
    (record { contents = e.same; sound = e.soundness; read_faults = e.later; taken = refl; write_faults = refl })
    e.spared (λ h. e.failed (ap Err h)) (λ h. e.no_writing (ap Err h)) (λ s h. e.no_answer s (ap Err h))))

pub returns-in-Some-clause-whole : goal.returns-in-Some-clause-whole
returns-in-Some-clause-whole g c =
    let e = c.in_ok-octets.ensures.reads in
    let file : PlanFile = plan_file c.name.result.now c.limits-limits.result in
    let given = subst (GivesFile (g.F.Files.contents c.args.files.now) file.name file.limits.octets) c.in-Some.is e.gives in
    let b : Moment = moment g.F.Files.contents g.F.Files.sound g.F.Files.faults g.K.Sink.taken g.K.Sink.faults c.args.files.now
    c.args.out.now in
    let m : Moment = moment g.F.Files.contents g.F.Files.sound g.F.Files.faults g.K.Sink.taken g.K.Sink.faults c.read_whole.new.files
    c.args.out.now in
    subst (λ f. GivesWhole f (Rattle.std.proofs.Common.Ok c.in-Some.octets) b m)
    (same_file c.args.file.now c.name.result.now c.limits-limits.result c.name.ensures c.limits-limits.ensures)
    (λ next result after w.
    Works-within file next c.in-Some.octets.items result b m after
    (record { contents = e.same; sound = e.soundness; read_faults = e.later; taken = refl; write_faults = refl })
    e.spared given.0 given.1 w)

pub returns-in_err-line-in-None-clause-whole : goal.returns-in_err-line-in-None-clause-whole
returns-in_err-line-in-None-clause-whole g c =
    let e = c.in_ok-octets.ensures.reads in
    let p = err_from_is_err_and c.from_residual-in_err-line-in-None.result c.from_residual-in_err-line-in-None.ensures.1 in
    let file : PlanFile = plan_file c.name.result.now c.limits-limits.result in
    let given = subst (GivesFile (g.F.Files.contents c.args.files.now) file.name file.limits.octets) c.in-None.is e.gives in
    let b : Moment = moment g.F.Files.contents g.F.Files.sound g.F.Files.faults g.K.Sink.taken g.K.Sink.faults c.args.files.now
    c.args.out.now in
    let m : Moment = moment g.F.Files.contents g.F.Files.sound g.F.Files.faults g.K.Sink.taken g.K.Sink.faults c.read_whole.new.files
    c.args.out.now in
    rw (p.1, p.2)
    (subst (λ f. (next : List ℕ → Work) → Works (within_limit f next) (Err Memory) b m)
    (same_file c.args.file.now c.name.result.now c.limits-limits.result c.name.ensures c.limits-limits.ensures)
    (λ next. Works-long file next given.0 (Err Memory) b m m
    (record { contents = e.same; sound = e.soundness; read_faults = e.later; taken = refl; write_faults = refl })
    e.spared given.1 given.2 (Works-memory (answered (TooLong, too_long_line file.limits)) m)))

pub returns-in_ok-line-in-None-clause-whole : goal.returns-in_ok-line-in-None-clause-whole
returns-in_ok-line-in-None-clause-whole g c =
    let e = c.in_ok-octets.ensures.reads in
    let file : PlanFile = plan_file c.name.result.now c.limits-limits.result in
    let given = subst (GivesFile (g.F.Files.contents c.args.files.now) file.name file.limits.octets) c.in-None.is e.gives in
    let b : Moment = moment g.F.Files.contents g.F.Files.sound g.F.Files.faults g.K.Sink.taken g.K.Sink.faults c.args.files.now
    c.args.out.now in
    let m : Moment = moment g.F.Files.contents g.F.Files.sound g.F.Files.faults g.K.Sink.taken g.K.Sink.faults c.read_whole.new.files
    c.args.out.now in
    let a : Moment = moment g.F.Files.contents g.F.Files.sound g.F.Files.faults g.K.Sink.taken g.K.Sink.faults c.read_whole.new.files
    c.print_last.new.out in
    let w = c.print_last.ensures in
    let text = subst (λ t. Writes t c.print_last.result m.taken a.taken m.write_faults a.write_faults)
    (c.as_slice.ensures ∙ c.in_ok-line-in-None.ensures) w.text in
    rw c.early.ensures
    (subst (λ f. (next : List ℕ → Work) → Works (within_limit f next) (Err (early c.print_last.result)) b a)
    (same_file c.args.file.now c.name.result.now c.limits-limits.result c.name.ensures c.limits-limits.ensures)
    (λ next. Works-long file next given.0 (Err (early c.print_last.result)) b m a
    (record { contents = e.same; sound = e.soundness; read_faults = e.later; taken = refl; write_faults = refl })
    e.spared given.1 given.2 (Works-early (answered (TooLong, too_long_line file.limits)) c.print_last.result m a
    (Works-answered (TooLong, too_long_line file.limits) c.print_last.result m a (λ cut. cut) text w.answer refl refl refl))))
