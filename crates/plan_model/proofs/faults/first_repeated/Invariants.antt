use Rattle.std.proofs.Common.{◌≡◌, drop}
use Rattle.plan_rules.specs.FirstOf.{first_of}
use Rattle.plan_model.specs.Faults.{repeated_at, first_repeated}
use Rattle.plan_model.proofs.faults.first_repeated.Given as goal

-- the first repeat is found from this node on
abbrev pub invariant-loop-i : goal.invariant-loop-i
invariant-loop-i g l =
    let name = g.N.Named.own_name in
    let point = g.N.Named.own_point in
    first_of (repeated_at name point l.nodes) l.i (drop l.i l.nodes) ≡ first_repeated name point l.nodes
