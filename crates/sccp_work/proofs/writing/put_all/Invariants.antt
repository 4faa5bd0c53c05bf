use Rattle.std.proofs.Common.{length}
use Rattle.sccp_work.proofs.WritingLemmas.{Partly}
use Rattle.sccp_work.proofs.writing.put_all.Given as goal

abbrev pub invariant-loop-rest : goal.invariant-loop-rest
invariant-loop-rest g l =
    Partly l.fn.text l.rest (g.K.Sink.taken l.fn.out) (g.K.Sink.taken l.out) (g.K.Sink.faults l.fn.out) (g.K.Sink.faults l.out)

abbrev pub decreases-loop-rest : goal.decreases-loop-rest
decreases-loop-rest g l = length l.rest
