use Rattle.sccp_work.specs.Moment.{moment}
use Rattle.sccp_tool.proofs.program.obey.Goals as goal

pub returns-in-Load : goal.returns-in-Load
returns-in-Load g c =
    rw c.in-Load.is (c.load.ensures (moment g.F.Files.contents g.F.Files.sound g.F.Files.faults g.K.Sink.taken g.K.Sink.faults
    c.args.files.now c.args.out.now))
