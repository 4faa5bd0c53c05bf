use Rattle.std.proofs.Common.{ap, sym, ◌∙◌}
use Rattle.chain_world.specs.Links.{octets_on}
use Rattle.chain_world.specs.Answering.{places}
use Rattle.chain_world.proofs.Answered.{take_none_back, take_one_back, take_two_back}
use Rattle.chain_world.proofs.answering.take_all.Goals as goal

pub returns-in-Nothing-clause-octets : goal.returns-in-Nothing-clause-octets
returns-in-Nothing-clause-octets c = λ sent before are put. take_none_back c.args.from sent before (octets_on c.args.links.now.items)
    (sym (ap places c.in-Nothing.is) ∙ are) put

pub returns-in-One-clause-octets : goal.returns-in-One-clause-octets
returns-in-One-clause-octets c = λ sent before are put.
    take_one_back c.args.from c.in-One.only sent before (octets_on c.args.links.now.items) (octets_on c.take_back.new.links.items)
    (sym (ap places c.in-One.is) ∙ are) put c.take_back.ensures.octets

pub returns-in-Two-clause-octets : goal.returns-in-Two-clause-octets
returns-in-Two-clause-octets c = λ sent before are put.
    take_two_back c.args.from c.in-Two.first c.in-Two.second sent before (octets_on c.args.links.now.items)
    (octets_on c.take_back-in-Two.new.links.items) (octets_on c.take_back-in-Two-2.new.links.items)
    (sym (ap places c.in-Two.is) ∙ are) put c.take_back-in-Two.ensures.octets c.take_back-in-Two-2.ensures.octets
