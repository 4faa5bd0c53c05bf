use Rattle.std.proofs.Common.{◌≡◌, ◌++◌, drop}
use Rattle.relay_net.specs.States.{first_states, first_states_from}
use Rattle.relay_net.proofs.net.Net.new.Given as goal

-- the states so far, and those of the nodes that follow, are those of all nodes
abbrev pub invariant-loop-place : goal.invariant-loop-place
invariant-loop-place l = l.states.items ++ first_states_from l.place (drop l.place l.plan.nodes) ≡ first_states l.plan
