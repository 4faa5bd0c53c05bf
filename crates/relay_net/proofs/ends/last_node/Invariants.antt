use Rattle.std.proofs.Common.{◌≡◌, drop}
use Rattle.relay_net.specs.Journeys.{last_node}
use Rattle.relay_net.proofs.ends.last_node.Given as goal

-- what is left ends as the whole does
abbrev pub invariant-loop-node : goal.invariant-loop-node
invariant-loop-node l = last_node l.last (drop l.node-index l.path) ≡ last_node l.first l.path
