use Rattle.std.proofs.Common.{◌≡◌, drop, length}
use Rattle.sccp_replay.specs.Gathering.{HasTaken, lines_in}
use Rattle.sccp_work.specs.Moment.{moment}
use Rattle.sccp_replay.proofs.TakeSteps.{LinesLeft}
use Rattle.sccp_replay.proofs.taking.take_lines.Given as goal

-- the lines so far are taken, and these are left
abbrev pub invariant-loop-line : goal.invariant-loop-line
invariant-loop-line g l = record {
  lines : LinesLeft l.fn.at (lines_in l.fn.batch) l.fn.lines l.at (lines_in l.batch) (drop (length l.yielded) l.fn.lines)
      (moment g.F.Files.contents g.F.Files.sound g.F.Files.faults g.K.Sink.taken g.K.Sink.faults l.fn.files l.fn.out)
      (moment g.F.Files.contents g.F.Files.sound g.F.Files.faults g.K.Sink.taken g.K.Sink.faults l.files l.out);
  begun : HasTaken (length l.yielded) l.fn.at l.fn.batch l.at l.batch;
  left : g.F.Files.left l.files ≡ g.F.Files.left l.fn.files;
}
