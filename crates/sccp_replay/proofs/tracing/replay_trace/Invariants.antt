use Rattle.std.proofs.Common.{[]}
use Rattle.sccp_replay.specs.Gathering.{lines_in}
use Rattle.sccp_replay.specs.Progress.{IsCounted}
use Rattle.sccp_work.specs.Moment.{moment}
use Rattle.sccp_replay.specs.Replay.{trace_work}
use Rattle.sccp_replay.specs.Replaying.{GoesOn, IsFed}
use Rattle.sccp_replay.specs.Trace.{trace_of}
use Rattle.sccp_work.specs.Work.{read}
use Rattle.sccp_replay.proofs.tracing.replay_trace.Given as goal

-- Whatever may still follow of the trace: this number of lines was taken, of a text of at least as many octets as pieces.
abbrev pub invariant-loop-turn : goal.invariant-loop-turn
invariant-loop-turn g l = record {
  goes : GoesOn (read l.fn.name (λ octets. trace_work l.fn.at (trace_of octets))) l.progress.count l.at (lines_in l.progress.batch)
      [] l.reader
      (g.F.Files.left l.files)
      (moment g.F.Files.contents g.F.Files.sound g.F.Files.faults g.K.Sink.taken g.K.Sink.faults l.fn.files l.fn.out)
      (moment g.F.Files.contents g.F.Files.sound g.F.Files.faults g.K.Sink.taken g.K.Sink.faults l.files l.out);
  begun : IsCounted l.at l.progress;
  fed : IsFed l.reader l.progress.count l._turn;
}
