use Rattle.made_load.proofs.Sending.{few_of}
use Rattle.made_load.proofs.load.carry.Goals as goal

pub add-requires-clause-few : goal.add-requires-clause-few
add-requires-clause-few c =
    few_of c.in_ok-journey.journey c.args.accepted.now.plan _ 0 c.origin.result c.args.octets.now c.passed-nodes.result.0
    c.in_ok-journey.ensures.same c.passed-nodes.ensures.nodes
