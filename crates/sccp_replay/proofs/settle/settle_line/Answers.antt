use Rattle.std.proofs.Common.{subst}
use Rattle.sccp_work.specs.Moment.{Moment, moment}
use Rattle.sccp_replay.specs.Replay.{Standing}
use Rattle.sccp_replay.specs.Routings.{ahead}
use Rattle.sccp_replay.specs.Settling.{GivesPlanFile}
use Rattle.sccp_replay.proofs.LaterSteps.{named_gives}
use Rattle.sccp_replay.proofs.settle.settle_line.Goals as goal

pub returns-in-Later-clause-gives : goal.returns-in-Later-clause-gives
returns-in-Later-clause-gives g c =
    let b : Moment = moment g.F.Files.contents g.F.Files.sound g.F.Files.faults g.K.Sink.taken g.K.Sink.faults c.args.files.now
    c.args.out.now in
    let m : Moment = moment g.F.Files.contents g.F.Files.sound g.F.Files.faults g.K.Sink.taken g.K.Sink.faults c.settle_named.new.files
    c.settle_named.new.out in
    let at : Standing = ahead c.args.at.now c.args.coming.now in
    let at' : Standing = ahead c.args.at.now c.settle_named.new.coming in
    named_gives at c.args.one.line c.args.one.joining c.in-Later.name c.settle_named.result at' b m c.in-Later.is c.requires.role
    (subst (λ n. GivesPlanFile at c.args.one.line.number n c.settle_named.result at' b m) c.as_slice-name.ensures
    c.settle_named.ensures.gives)
