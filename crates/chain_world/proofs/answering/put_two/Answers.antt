use Rattle.std.proofs.Common.{◌∙◌}
use Rattle.chain_world.specs.Links.{octets_on}
use Rattle.chain_world.proofs.Stored.{put_back}
use Rattle.chain_world.proofs.answering.put_two.Goals as goal

pub returns-in-Err-clause-err : goal.returns-in-Err-clause-err
returns-in-Err-clause-err c =
    put_back c.args.from c.args.first.to (octets_on c.args.links.now.items) (octets_on c.put-2.new.links.items)
    (octets_on c.take_back.new.links.items) c.args.first.octets
    (λ a b. c.in-Err.ensures.err a b ∙ c.in_ok-put.ensures.ok a b)
    c.take_back.ensures.octets
