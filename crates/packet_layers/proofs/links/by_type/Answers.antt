use Rattle.std.proofs.Common.{◌∙◌, arith}
use Rattle.packet_layers.proofs.Turns.{carry, no_tag_more, short_tag, is_ip, is_ipv6, is_other, after_tag}
use Rattle.packet_layers.proofs.links.by_type.Goals as goal

pub returns-then-left-lt4 : goal.returns-then-left-lt4
returns-then-left-lt4 c = carry _ _ _ c.single.ensures
    (short_tag _ _ _ _ (omega arith) c.is_tag.ensures c.if-is_tag.true c.if-left-lt4.true ∙ c.loop-i.invariant)

pub returns-then-kind-eq-IPV4 : goal.returns-then-kind-eq-IPV4
returns-then-kind-eq-IPV4 c = carry _ _ _ c.ip.ensures
    (is_ip _ _ _ _ (omega arith) c.is_tag.ensures c.if-is_tag.false c.if-kind-eq-IPV4.true ∙ c.loop-i.invariant)

pub returns-then-kind : goal.returns-then-kind
returns-then-kind c = carry _ _ _ c.ipv6.ensures
    (is_ipv6 _ _ _ _ (omega arith) c.is_tag.ensures c.if-is_tag.false c.if-kind.true ∙ c.loop-i.invariant)

pub returns-else-kind : goal.returns-else-kind
returns-else-kind c = carry _ _ _ c.single-else-kind.ensures
    (is_other _ _ _ _ (omega arith) c.is_tag.ensures c.if-is_tag.false c.if-kind-eq-IPV4.false c.if-kind.false ∙ c.loop-i.invariant)

pub loop-i-preserved : goal.loop-i-preserved
loop-i-preserved c = after_tag _ _ _ _ _ _ _ _ c.loop-i.invariant (omega arith) c.is_tag.ensures c.if-is_tag.true c.if-left-lt4.false
    c.number_2-kind.ensures c.after-left.ensures

pub returns : goal.returns
returns c = carry _ _ _ c.single-2.ensures (no_tag_more _ _ _ (omega arith) ∙ c.loop-i.invariant)
