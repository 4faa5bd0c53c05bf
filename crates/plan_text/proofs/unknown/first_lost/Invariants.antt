use Rattle.std.proofs.Common.{◌≡◌, drop, map}
use Rattle.plan_rules.specs.FirstOf.{first_of}
use Rattle.toml.specs.View.{view}
use Rattle.plan_text.specs.Tests.{lost_in_node}
use Rattle.plan_text.proofs.unknown.first_lost.Given as goal

-- the first one is found from here on
abbrev pub invariant-loop-i : goal.invariant-loop-i
invariant-loop-i l = first_of (lost_in_node (map view l.names)) l.i (map view (drop l.i l.nodes))
    ≡ first_of (lost_in_node (map view l.names)) 0 (map view l.nodes)
