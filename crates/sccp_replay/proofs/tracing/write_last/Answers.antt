use Rattle.std.proofs.Common.{◌∙◌, refl, subst}
use Rattle.std.proofs.lemmas.Result.{err_from_is_err_and}
use Rattle.sccp_replay.specs.Gathering.{lines_in}
use Rattle.sccp_work.specs.Moment.{Moment, moment}
use Rattle.sccp_replay.specs.Replaying.{BatchGives}
use Rattle.sccp_replay.proofs.TakeSteps.{closing_memory, closing_written}
use Rattle.sccp_replay.proofs.tracing.write_last.Goals as goal

pub returns-in_err-status : goal.returns-in_err-status
returns-in_err-status g c =
    let p = err_from_is_err_and c.from_residual-in_err-status.result c.from_residual-in_err-status.ensures.1 in
    let b : Moment = moment g.F.Files.contents g.F.Files.sound g.F.Files.faults g.K.Sink.taken g.K.Sink.faults c.args.files.now
    c.args.out.now in
    let m : Moment = moment g.F.Files.contents g.F.Files.sound g.F.Files.faults g.K.Sink.taken g.K.Sink.faults c.batch_text.new.files
    c.batch_text.new.out in
    rw (p.1, p.2) (closing_memory c.args.at.now c.batch_text.new.at
    (lines_in c.args.progress.now.batch) c.in_ok-text.text c.args.progress.now.count c.args.fault b m
    (subst (λ l. BatchGives c.args.at.now
    (lines_in l) c.batch_text.new.at c.in_ok-text.text b m) c.take.ensures.gives c.in_ok-text.ensures.gives))

pub returns : goal.returns
returns g c =
    let b : Moment = moment g.F.Files.contents g.F.Files.sound g.F.Files.faults g.K.Sink.taken g.K.Sink.faults c.args.files.now
    c.args.out.now in
    let m : Moment = moment g.F.Files.contents g.F.Files.sound g.F.Files.faults g.K.Sink.taken g.K.Sink.faults c.batch_text.new.files
    c.batch_text.new.out in
    let a : Moment = moment g.F.Files.contents g.F.Files.sound g.F.Files.faults g.K.Sink.taken g.K.Sink.faults c.batch_text.new.files
    c.print_last.new.out in
    closing_written c.args.at.now c.batch_text.new.at
    (lines_in c.args.progress.now.batch) c.in_ok-text.text c.as_slice-2.result.now c.args.progress.now.count c.args.fault
    c.in_ok-status.status
    c.print_last.result b m a
    (subst (λ l. BatchGives c.args.at.now
    (lines_in l) c.batch_text.new.at c.in_ok-text.text b m) c.take.ensures.gives c.in_ok-text.ensures.gives)
    (c.as_slice-2.ensures ∙ c.into_octets.ensures
    ∙ c.in_ok-status.ensures.text) c.in_ok-status.ensures.status c.print_last.ensures.text c.print_last.ensures.answer
    (record { contents = refl; sound = refl; read_faults = refl })
