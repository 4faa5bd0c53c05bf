use Rattle.packet_layers.proofs.Turns.{carry, whole_ipv6}
use Rattle.packet_layers.proofs.ipv6.ipv6.Goals as goal

pub returns : goal.returns
returns c = carry _ _ _ c.after_extensions.ensures
    (whole_ipv6 _ _ _ c.if-octets-lt40.false c.if-octets-ne6.false c.size-whole.ensures c.front.ensures)
