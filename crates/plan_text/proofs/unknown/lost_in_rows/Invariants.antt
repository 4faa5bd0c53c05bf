use Rattle.std.proofs.Common.{◌≡◌, drop, map}
use Rattle.plan_rules.specs.FirstOf.{first_of}
use Rattle.toml.specs.View.{view}
use Rattle.plan_text.specs.Tests.{lost_at, lost_in_rows}
use Rattle.plan_text.proofs.unknown.lost_in_rows.Given as goal

-- the first one is found from here on
abbrev pub invariant-loop-j : goal.invariant-loop-j
invariant-loop-j l = first_of (lost_at (map view l.names) l.i) l.j (map view (drop l.j l.rows))
    ≡ lost_in_rows (map view l.names) l.i (map view l.rows)
