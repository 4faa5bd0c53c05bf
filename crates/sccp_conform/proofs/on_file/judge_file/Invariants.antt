use Rattle.std.proofs.Common.{◌≡◌, ◌+◌, ◌-◌, length, false}
use Rattle.sccp_conform.proofs.OnFileLemmas.{rest_of}
use Rattle.sccp_conform.specs.Reports.{file_work}
use Rattle.sccp_work.specs.Moment.{moment}
use Rattle.sccp_work.specs.Pieces.{GoesOn}
use Rattle.watch_items.specs.Front.{is_capture}
use Rattle.sccp_conform.proofs.on_file.judge_file.Given as goal

-- whatever may still follow of the file, of which these octets were read; they are no front of a capture
abbrev pub invariant-loop-piece : goal.invariant-loop-piece
invariant-loop-piece g l =
    GoesOn (file_work l.plan l.fn.name) (rest_of l.plan l.octets.items) (g.F.Files.left l.files)
    (moment g.F.Files.contents g.F.Files.sound g.F.Files.faults g.K.Sink.taken g.K.Sink.faults l.fn.files l.fn.out)
    (moment g.F.Files.contents g.F.Files.sound g.F.Files.faults g.K.Sink.taken g.K.Sink.faults l.files l.out)
    × (is_capture l.octets.items ≡ false)

abbrev pub decreases-loop-piece : goal.decreases-loop-piece
decreases-loop-piece g l = 1048576 + 1 - length l.octets.items
