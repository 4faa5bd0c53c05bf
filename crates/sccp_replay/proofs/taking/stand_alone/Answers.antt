use Rattle.std.proofs.Common.{◌∙◌, Option, refl, subst}
use Rattle.std.proofs.lemmas.Result.{err_from_is_err_and}
use Rattle.std.specs.Option.{option_map}
use Rattle.relay_net.specs.Batches.{Due}
use Rattle.sccp_report.specs.Roles.{as_due}
use Rattle.sccp_replay.specs.Gathering.{lines_in}
use Rattle.sccp_work.specs.Moment.{Moment, moment}
use Rattle.sccp_replay.specs.Replay.{alone_work}
use Rattle.sccp_replay.specs.Replaying.{BatchGives}
use Rattle.sccp_replay.proofs.TakeSteps.{batch_memory, alone_written}
use Rattle.sccp_replay.proofs.taking.stand_alone.Goals as goal

pub returns-in_err-whole-in-Ok-clause-gives : goal.returns-in_err-whole-in-Ok-clause-gives
returns-in_err-whole-in-Ok-clause-gives g c =
    let p = err_from_is_err_and c.from_residual.result c.from_residual.ensures.1 in
    let b : Moment = moment g.F.Files.contents g.F.Files.sound g.F.Files.faults g.K.Sink.taken g.K.Sink.faults c.args.files.now
    c.args.out.now in
    let m : Moment = moment g.F.Files.contents g.F.Files.sound g.F.Files.faults g.K.Sink.taken g.K.Sink.faults c.batch_text.new.files
    c.batch_text.new.out in
    rw (p.1, p.2) (λ next. batch_memory c.args.at.now c.batch_text.new.at (lines_in c.args.batch.now) c.in-Ok.text b m
    (subst (λ l. BatchGives c.args.at.now (lines_in l) c.batch_text.new.at c.in-Ok.text b m) c.take.ensures.gives c.in-Ok.ensures.gives)
    (alone_work c.args.ends.line.now (option_map as_due c.args.ends.due) next))

pub returns-in_ok-whole-in-Ok-clause-gives : goal.returns-in_ok-whole-in-Ok-clause-gives
returns-in_ok-whole-in-Ok-clause-gives g c =
    let b : Moment = moment g.F.Files.contents g.F.Files.sound g.F.Files.faults g.K.Sink.taken g.K.Sink.faults c.args.files.now
    c.args.out.now in
    let m : Moment = moment g.F.Files.contents g.F.Files.sound g.F.Files.faults g.K.Sink.taken g.K.Sink.faults c.batch_text.new.files
    c.batch_text.new.out in
    let a : Moment = moment g.F.Files.contents g.F.Files.sound g.F.Files.faults g.K.Sink.taken g.K.Sink.faults c.batch_text.new.files
    c.put_all.new.out in
    let d : Option Due = option_map as_due c.args.ends.due in
    alone_written c.args.at.now c.batch_text.new.at c.alone_text.new.at
    (lines_in c.args.batch.now) c.args.ends.line.now d c.in-Ok.text c.as_slice.result.now c.put_all.result b m a
    (subst (λ l. BatchGives c.args.at.now (lines_in l) c.batch_text.new.at c.in-Ok.text b m) c.take.ensures.gives c.in-Ok.ensures.gives)
    (c.as_slice.ensures ∙ c.in_ok-whole-in-Ok.ensures.text)
    c.in_ok-whole-in-Ok.ensures.at c.put_all.ensures
    (record { contents = refl; sound = refl; read_faults = refl })
