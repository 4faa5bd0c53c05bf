use Rattle.std.proofs.Common.{[], Some}
use Rattle.sccp_message.specs.Written.{made_of}
use Rattle.sccp_message.proofs.Octets.{fits_parts}
use Rattle.sccp_message.proofs.encoding.data.Goals as goal

pub joined-requires : goal.joined-requires
joined-requires c = rw (c.new.ensures, c.as_slice.ensures)
    (fits_parts (made_of c.args.code c.args.fixed.now [] (Some c.args.payload.now) c.args.params.now) c.requires)
