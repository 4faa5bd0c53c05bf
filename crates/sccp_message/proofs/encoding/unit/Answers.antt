use Rattle.std.proofs.Common.{[], ◌∷◌, Some}
use Rattle.sccp_message.specs.Written.{made_of}
use Rattle.sccp_message.proofs.Octets.{fits_parts}
use Rattle.sccp_message.proofs.encoding.unit.Goals as goal

pub joined_unit-requires : goal.joined_unit-requires
joined_unit-requires c = rw (c.in_ok-called.ensures.exact, c.in_ok-calling.ensures.exact)
    (fits_parts (made_of c.args.code c.args.fixed.now (c.args.called.now ∷ c.args.calling.now ∷ [])
    (Some c.args.payload.now) c.args.params.now) c.requires)
