use Rattle.chain_world.specs.Links.{octets_on}
use Rattle.chain_world.proofs.answering.take_in.Goals as goal

pub returns-clause-err_octets : goal.returns-clause-err_octets
returns-clause-err_octets c = c.take_all.ensures.octets c.in_ok-exchange.field-0.sent
    (octets_on c.args.links.now.items) c.in_ok-placed.ensures.placed c.in_ok-placed.ensures.ok
