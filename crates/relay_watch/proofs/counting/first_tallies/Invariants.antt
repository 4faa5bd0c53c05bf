use Rattle.std.proofs.Common.{◌≡◌, ◌++◌, drop, map}
use Rattle.relay_watch.specs.Kept.{first_tally}
use Rattle.relay_watch.proofs.counting.first_tallies.Given as goal

-- what is kept of the relays so far, then of those ahead, is that of all
abbrev pub invariant-loop-node : goal.invariant-loop-node
invariant-loop-node l = l.tallies.items ++ map first_tally (drop l.node-index l.plan.nodes) ≡ map first_tally l.plan.nodes
