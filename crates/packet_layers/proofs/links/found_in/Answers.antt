use Rattle.std.proofs.Common.{arith}
use Rattle.packet_layers.proofs.InLinks.{answered}
use Rattle.packet_layers.proofs.links.found_in.Goals as goal

pub returns-clause-is_in : goal.returns-clause-is_in
returns-clause-is_in c = answered _ _ c.args.octets.now _ (λ i. omega (arith, c.type_inv.octets i)) c.by_link.ensures
