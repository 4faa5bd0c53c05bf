use Rattle.std.proofs.Common.{◌∙◌, refl, subst}
use Rattle.sccp_replay.specs.Gathering.{lines_in}
use Rattle.sccp_work.specs.Moment.{Moment, moment}
use Rattle.sccp_replay.specs.Replaying.{BatchGives}
use Rattle.sccp_work.specs.Writing.{Writes}
use Rattle.sccp_replay.proofs.TakeSteps.{batch_written}
use Rattle.sccp_replay.proofs.taking.write_full.Goals as goal

pub returns-clause-gives : goal.returns-clause-gives
returns-clause-gives g c =
    let b : Moment = moment g.F.Files.contents g.F.Files.sound g.F.Files.faults g.K.Sink.taken g.K.Sink.faults c.args.files.now
    c.args.out.now in
    let m : Moment = moment g.F.Files.contents g.F.Files.sound g.F.Files.faults g.K.Sink.taken g.K.Sink.faults c.batch_text.new.files
    c.batch_text.new.out in
    let a : Moment = moment g.F.Files.contents g.F.Files.sound g.F.Files.faults g.K.Sink.taken g.K.Sink.faults c.batch_text.new.files
    c.put_all.new.out in
    batch_written c.args.at.now c.batch_text.new.at (lines_in c.args.batch.now) c.in_ok-text.text c.put_all.result b m a
    (subst (λ l. BatchGives c.args.at.now
    (lines_in l) c.batch_text.new.at c.in_ok-text.text b m) c.take.ensures.gives c.in_ok-text.ensures.gives)
    (subst (λ t. Writes t c.put_all.result m.taken a.taken m.write_faults a.write_faults) (c.as_slice-2.ensures
    ∙ c.into_octets.ensures) c.put_all.ensures)
    (record { contents = refl; sound = refl; read_faults = refl })
