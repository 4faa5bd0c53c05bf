use Rattle.std.proofs.Common.{◌≡◌, drop}
use Rattle.plan_rules.specs.FirstOf.{first_of}
use Rattle.plan_model.specs.Faults.{relays_to, node_place_at, first_in_nodes}
use Rattle.plan_model.proofs.faults.first_relay_to_self.Given as goal

-- the first relay to its own node is found from this node on
abbrev pub invariant-loop-i : goal.invariant-loop-i
invariant-loop-i l = first_of (node_place_at (λ node. relays_to node.pc)) l.i (drop l.i l.nodes)
    ≡ first_in_nodes (λ node. relays_to node.pc) l.nodes
