use Rattle.sccp_capture.specs.Printing.{file_work}
use Rattle.sccp_capture.proofs.LoopLemmas.{rest_work}
use Rattle.sccp_work.specs.Moment.{moment}
use Rattle.sccp_work.specs.Pieces.{GoesOn}
use Rattle.sccp_capture.proofs.printing.print_capture.Given as goal

-- whatever may still follow of the file
abbrev pub invariant-loop-turn : goal.invariant-loop-turn
invariant-loop-turn g l =
    GoesOn (file_work l.plan l.fn.name) (rest_work l.plan l.capture l.reader) (g.F.Files.left l.files)
    (moment g.F.Files.contents g.F.Files.sound g.F.Files.faults g.K.Sink.taken g.K.Sink.faults l.fn.files l.fn.out)
    (moment g.F.Files.contents g.F.Files.sound g.F.Files.faults g.K.Sink.taken g.K.Sink.faults l.files l.out)
