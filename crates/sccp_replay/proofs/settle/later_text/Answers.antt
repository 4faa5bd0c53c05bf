use Rattle.std.proofs.Common.{subst}
use Rattle.sccp_replay.proofs.settle.later_text.Goals as goal
use Rattle.sccp_work.specs.Limit.{GivesWhole}
use Rattle.sccp_work.specs.Moment.{Moment, moment}
use Rattle.sccp_work.specs.PlanFile.{PlanFile}

pub returns-clause-whole : goal.returns-clause-whole
returns-clause-whole g c =
    let b : Moment = moment g.F.Files.contents g.F.Files.sound g.F.Files.faults g.K.Sink.taken g.K.Sink.faults c.args.files.now
    c.args.out.now in
    let m : Moment = moment g.F.Files.contents g.F.Files.sound g.F.Files.faults g.K.Sink.taken g.K.Sink.faults c.within_limit.new.files
    c.within_limit.new.out in
    subst (λ (f : PlanFile). GivesWhole f c.within_limit.result b m) c.later_file-file.ensures c.within_limit.ensures.whole
