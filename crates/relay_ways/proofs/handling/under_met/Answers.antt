use Rattle.relay_ways.proofs.Constant.{handled_if}
use Rattle.relay_ways.proofs.handling.under_met.Goals as goal

pub returns : goal.returns
returns c =
    handled_if c.args.at.now.plan.now c.args.at.now.node c.args.at.now.origin c.args.at.now.octets.now c.args.condition.now
    c.args.marking.now c.under.result c.requires c.under.ensures
