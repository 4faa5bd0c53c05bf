use Rattle.std.proofs.Common.{arith}
use Rattle.sccp_work.proofs.WritingLemmas.{Partly-more}
use Rattle.sccp_work.proofs.writing.put_all.Goals as goal

pub loop-rest-preserved : goal.loop-rest-preserved
loop-rest-preserved g c =
    let s = c.in-Ok.ensures in
    Partly-more _ _ c.in-Ok.count _ c.loop-rest.invariant s.front s.cause.later (omega arith)
