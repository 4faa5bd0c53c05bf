use Rattle.std.proofs.Common.{◌≡◌, drop, map}
use Rattle.plan_rules.specs.FirstOf.{first_of}
use Rattle.toml.specs.View.{view}
use Rattle.plan_text.specs.Tests.{lost_cover_at, first_lost_cover}
use Rattle.plan_text.proofs.unknown.first_lost_cover.Given as goal

-- the first one is found from here on
abbrev pub invariant-loop-i : goal.invariant-loop-i
invariant-loop-i l = first_of (lost_cover_at (map view l.names)) l.i (map view (drop l.i l.covers))
    ≡ first_lost_cover (map view l.names) (map view l.covers)
