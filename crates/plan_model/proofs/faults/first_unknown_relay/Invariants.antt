use Rattle.std.proofs.Common.{◌≡◌, drop}
use Rattle.plan_rules.specs.FirstOf.{first_of}
use Rattle.plan_model.specs.Faults.{is_unknown, node_place_at, first_in_nodes}
use Rattle.plan_model.proofs.faults.first_unknown_relay.Given as goal

-- the first unknown relay is found from this node on
abbrev pub invariant-loop-i : goal.invariant-loop-i
invariant-loop-i l = first_of (node_place_at (λ node. is_unknown l.nodes)) l.i (drop l.i l.nodes)
    ≡ first_in_nodes (λ node. is_unknown l.nodes) l.nodes
