use Rattle.std.proofs.Common.{refl}
use Rattle.sccp_tool.specs.Commands.{task_of, texts}
use Rattle.sccp_work.specs.Moment.{Moment, moment}
use Rattle.sccp_tool.specs.Run.{work_of}
use Rattle.sccp_tool.specs.Texts.{usage}
use Rattle.sccp_work.specs.declared.status.Status.TheVariants.{Usage}
use Rattle.sccp_work.proofs.WorkLemmas.{Works-answered, Works-memory}
use Rattle.sccp_tool.proofs.program.carry_out.Goals as goal

pub returns-in-Ok-None : goal.returns-in-Ok-None
unfolding usage
returns-in-Ok-None g c =
    let e = rw c.in-Ok-None.field-0-is at c.in-Ok-None.ensures in
    let w = c.print_last.ensures in
    let b : Moment = moment g.F.Files.contents g.F.Files.sound g.F.Files.faults g.K.Sink.taken g.K.Sink.faults c.args.files.now
    c.args.out.now in
    let a : Moment = moment g.F.Files.contents g.F.Files.sound g.F.Files.faults g.K.Sink.taken g.K.Sink.faults c.args.files.now
    c.print_last.new.out in
    rw (← e) (Works-answered (Usage, usage) c.print_last.result b a (λ cut. cut) w.text w.answer refl refl refl)

pub returns-in-Err : goal.returns-in-Err
returns-in-Err g c =
    let b : Moment = moment g.F.Files.contents g.F.Files.sound g.F.Files.faults g.K.Sink.taken g.K.Sink.faults c.args.files.now
    c.args.out.now in
    Works-memory (work_of (task_of (texts c.args.words.now))) b
