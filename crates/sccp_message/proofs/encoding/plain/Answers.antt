use Rattle.std.proofs.Common.{[], None}
use Rattle.sccp_message.specs.Written.{made_of}
use Rattle.sccp_message.proofs.Octets.{fits_parts}
use Rattle.sccp_message.proofs.encoding.plain.Goals as goal

pub joined-requires : goal.joined-requires
joined-requires c = fits_parts (made_of c.args.code c.args.fixed.now [] None c.args.params.now) c.requires
