use Rattle.std.proofs.Common.{Ok}
use Rattle.sccp_layout.specs.Parts.{parts_made}
use Rattle.sccp_message.proofs.Octets.{gives_from, are_named}
use Rattle.sccp_message.proofs.encoding.joined.Goals as goal

pub returns-in-Ok-clause-exact : goal.returns-in-Ok-clause-exact
returns-in-Ok-clause-exact c = gives_from (parts_made c.args.code c.args.fixed.now c.args.variable.now c.args.params.now)
    (Ok c.in-Ok.octets) c.requires c.in-Ok.ensures.exact

pub returns-in-Ok-clause-named : goal.returns-in-Ok-clause-named
returns-in-Ok-clause-named c = are_named (Ok c.in-Ok.octets)
    (parts_made c.args.code c.args.fixed.now c.args.variable.now c.args.params.now) c.in-Ok.ensures.again
