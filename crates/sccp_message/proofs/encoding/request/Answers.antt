use Rattle.std.proofs.Common.{[], ◌∷◌, None}
use Rattle.sccp_message.specs.Written.{made_of}
use Rattle.sccp_message.proofs.Octets.{fits_parts}
use Rattle.sccp_message.proofs.encoding.request.Goals as goal

pub joined-requires : goal.joined-requires
joined-requires c = rw (c.new.ensures, c.as_slice.ensures, c.in_ok-called.ensures.exact)
    (fits_parts (made_of c.args.code c.args.fixed.now (c.args.called.now ∷ []) None c.args.params.now) c.requires)
