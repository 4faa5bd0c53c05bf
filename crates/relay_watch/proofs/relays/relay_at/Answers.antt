use Rattle.plan_model.specs.Network.{has_point}
use Rattle.relay_watch.proofs.Places.{found_within}
use Rattle.relay_watch.proofs.relays.relay_at.Goals as goal

pub returns-clause-within : goal.returns-clause-within
returns-clause-within c = found_within (has_point c.args.pc) c.args.plan.now.nodes c.node_at.result c.node_at.ensures
