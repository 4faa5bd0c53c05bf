use Rattle.std.proofs.Common.{arith}
use Rattle.packet_layers.proofs.InLinks.{one_answered}
use Rattle.packet_layers.proofs.adaptation.m2pa.Goals as goal

pub returns-clause-is_in : goal.returns-clause-is_in
returns-clause-is_in c = one_answered c.args.octets.now _ (λ i. omega (arith, c.type_inv.octets i)) c.exact.ensures
