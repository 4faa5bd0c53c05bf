use Rattle.std.proofs.Common.{refl, arith}
use Rattle.packet_layers.proofs.Chunks.{is_done, is_full, is_bad, goes_on}
use Rattle.packet_layers.proofs.sctp.chunks.Goals as goal

pub returns-then-whole-eq0 : goal.returns-then-whole-eq0
returns-then-whole-eq0 c = is_done _ _ _ _ _ _ _ c.loop-i.invariant c.if-whole-eq0.true

pub returns-in-Err : goal.returns-in-Err
returns-in-Err c = is_bad _ _ _ _ _ _ _ _ _ _ c.loop-i.invariant (omega arith) (omega arith) c.in-Err.ensures.exact
    c.in_ok-push-in-Err.ensures.ok refl

pub loop-i-preserved : goal.loop-i-preserved
loop-i-preserved c = goes_on _ _ _ _ _ _ _ _ _ _ _ _ _ _ c.loop-i.invariant (omega arith) (omega arith) c.in-Ok.ensures.exact
    c.in_ok-push.ensures.ok c.chunk_of.ensures c.up_to_four-used.ensures c.saturating_sub-whole.ensures c.after-left.ensures

pub returns : goal.returns
returns c = is_full _ _ _ _ _ _ _ c.loop-i.invariant (omega arith)
