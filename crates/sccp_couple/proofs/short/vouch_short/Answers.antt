use Rattle.std.proofs.Common.{arith}
use Rattle.sccp_address.proofs.Kept.{are_octets}
use Rattle.sccp_couple.proofs.ShortParts.{reads_short}
use Rattle.sccp_couple.proofs.short.vouch_short.Goals as goal

pub returns : goal.returns
returns c = reads_short c.args.octets.now c.args.message.now
    (are_octets c.args.octets.now (λ i. omega (arith, c.type_inv.octets i))) c.requires.reads c.requires.kind
