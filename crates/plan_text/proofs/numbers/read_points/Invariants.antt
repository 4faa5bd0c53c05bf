use Rattle.std.proofs.Common.{◌≡◌, map}
use Rattle.sccp_base.proofs.AllOk.{with_front}
use Rattle.toml.specs.View.{view}
use Rattle.plan_text.specs.EachOk.{each_ok}
use Rattle.plan_text.specs.Drafts.{point_at}
use Rattle.plan_text.proofs.EachOk.{ahead}
use Rattle.plan_text.proofs.numbers.read_points.Given as goal

-- the points so far, then those that follow, are what is read
abbrev pub invariant-loop-value : goal.invariant-loop-value
invariant-loop-value l = with_front l.read (ahead view (point_at l.place) l.value-index l.values)
    ≡ each_ok (point_at l.place) 0 (map view l.values)
