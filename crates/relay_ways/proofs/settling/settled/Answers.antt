use Rattle.relay_ways.proofs.SameMet.{settled_result}
use Rattle.relay_ways.proofs.settling.settled.Goals as goal

pub returns-clause-same : goal.returns-clause-same
returns-clause-same c = settled_result c.args.condition.now c.shortest.result c.shortest.ensures
