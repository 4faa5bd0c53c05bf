use Rattle.std.proofs.Common.{◌∙◌, refl, Err}
use Rattle.std.proofs.lemmas.Result.{err_from_is_err_and}
use Rattle.sccp_plans.specs.Covers.{each_cover}
use Rattle.sccp_plans.specs.Tallies.{tally_status, tally_line}
use Rattle.sccp_work.specs.Moment.{Moment, moment}
use Rattle.sccp_work.specs.Work.{answered}
use Rattle.sccp_work.specs.declared.stop.Stop.TheVariants.{Memory}
use Rattle.sccp_work.proofs.WorkLemmas.{Works-memory}
use Rattle.sccp_plans.proofs.CoversLemmas.{Works-tally}
use Rattle.sccp_plans.proofs.each_cover.covers.Goals as goal

pub returns-in_err-tally : goal.returns-in_err-tally
returns-in_err-tally g c =
    let p = err_from_is_err_and c.from_residual-in_err-tally.result c.from_residual-in_err-tally.ensures.1 in
    let n : Moment = moment g.F.Files.contents g.F.Files.sound g.F.Files.faults g.K.Sink.taken g.K.Sink.faults c.with_plan.new.files
    c.with_plan.new.out in
    let m : Moment = moment g.F.Files.contents g.F.Files.sound g.F.Files.faults g.K.Sink.taken g.K.Sink.faults c.with_plan.new.files
    c.judge_covers.new.out in
    rw (p.1, p.2) (c.in_ok-plan.ensures.plan each_cover (Err c.in_err-tally.field-0.0) m (c.in_err-tally.ensures.gives n))

pub returns-in_err-line : goal.returns-in_err-line
returns-in_err-line g c =
    let p = err_from_is_err_and c.from_residual-in_err-line.result c.from_residual-in_err-line.ensures.1 in
    let m : Moment = moment g.F.Files.contents g.F.Files.sound g.F.Files.faults g.K.Sink.taken g.K.Sink.faults c.with_plan.new.files
    c.judge_covers.new.out in
    let tally = c.in_ok-tally.tally in
    rw (p.1, p.2) (c.in_ok-plan.ensures.plan each_cover (Err Memory) m
    (c.in_ok-tally.ensures.gives m (Err Memory) m (Works-memory (answered (tally_status tally, tally_line tally)) m)))

pub returns : goal.returns
returns g c =
    let m : Moment = moment g.F.Files.contents g.F.Files.sound g.F.Files.faults g.K.Sink.taken g.K.Sink.faults c.with_plan.new.files
    c.judge_covers.new.out in
    let a : Moment = moment g.F.Files.contents g.F.Files.sound g.F.Files.faults g.K.Sink.taken g.K.Sink.faults c.with_plan.new.files
    c.print_last.new.out in
    let tally = c.in_ok-tally.tally in
    c.in_ok-plan.ensures.plan each_cover c.print_last.result a
    (c.in_ok-tally.ensures.gives m c.print_last.result a
    (Works-tally tally c.status.result c.as_slice.result.now c.print_last.result m a c.status.ensures
    (c.as_slice.ensures ∙ c.in_ok-line.ensures) c.print_last.ensures.text c.print_last.ensures.answer refl refl refl))
