use Rattle.std.proofs.Common.{arith}
use Rattle.std.proofs.lemmas.Result.{err_from_is_err_and}
use Rattle.sccp_replay.specs.Gathering.{lines_in}
use Rattle.sccp_work.specs.Moment.{Moment, moment}
use Rattle.sccp_replay.proofs.Fed.{last_few}
use Rattle.sccp_replay.proofs.Gathering.{counted_done}
use Rattle.sccp_replay.proofs.TakeSteps.{last_stopped}
use Rattle.sccp_replay.proofs.tracing.take_end.Goals as goal

pub take_told-requires-clause-few : goal.take_told-requires-clause-few
take_told-requires-clause-few g c κs within =
    last_few c.args.reader.now c.args.progress.now.count c.in_ok-fed.fed c.requires.fed c.in_ok-fed.ensures.text

pub write_last-requires-clause-joined : goal.write_last-requires-clause-joined
write_last-requires-clause-joined g c κs within =
    let counted = c.in_ok-take_told.ensures.count in
    let few = last_few c.args.reader.now c.args.progress.now.count c.in_ok-fed.fed c.requires.fed c.in_ok-fed.ensures.text in
    counted_done c.take_told.new.at c.take_told.new.progress c.in_ok-take_told.ensures.begun (omega (arith, counted, few))

pub returns-in_err-take_told : goal.returns-in_err-take_told
returns-in_err-take_told g c =
    let p = err_from_is_err_and c.from_residual-in_err-take_told.result c.from_residual-in_err-take_told.ensures.1 in
    let b : Moment = moment g.F.Files.contents g.F.Files.sound g.F.Files.faults g.K.Sink.taken g.K.Sink.faults c.args.files.now
    c.args.out.now in
    let m : Moment = moment g.F.Files.contents g.F.Files.sound g.F.Files.faults g.K.Sink.taken g.K.Sink.faults c.take_told.new.files
    c.take_told.new.out in
    rw (p.1, p.2) (last_stopped c.args.progress.now.count c.args.at.now c.take_told.new.at (lines_in c.args.progress.now.batch)
    (lines_in c.take_told.new.progress.batch) c.args.reader.now c.in_ok-fed.fed c.in_err-take_told.field-0.0 b m
    c.in_ok-fed.ensures.exact c.in_err-take_told.ensures.takes)
