use Rattle.std.proofs.Common.{◌∙◌, arith}
use Rattle.packet_layers.proofs.Turns.{carry, no_more, is_sctp, ends, goes_on}
use Rattle.packet_layers.proofs.ipv6.after_extensions.Goals as goal

pub returns-then-kind : goal.returns-then-kind
returns-then-kind c = carry _ _ _ c.sctp.ensures (is_sctp _ _ _ _ (omega arith) c.if-kind.true ∙ c.loop-i.invariant)

pub returns-in-Err : goal.returns-in-Err
returns-in-Err c = carry _ _ _ c.single.ensures (ends _ _ _ _ _ (omega arith) c.if-kind.false c.in-Err.ensures.err ∙ c.loop-i.invariant)

pub loop-i-preserved : goal.loop-i-preserved
loop-i-preserved c = goes_on _ _ _ _ _ _ _ _ _ c.loop-i.invariant (omega arith) c.if-kind.false c.in-Ok.ensures.ok
    c.saturating_sub-whole.ensures c.after-left.ensures

pub returns : goal.returns
returns c = carry _ _ _ c.single-2.ensures (no_more _ _ _ _ (omega arith) ∙ c.loop-i.invariant)
