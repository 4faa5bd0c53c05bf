use Rattle.std.proofs.Common.{take}
use Rattle.std.specs.List.{flat_map}
use Rattle.sccp_scrc.specs.Arriving.{point_of}
use Rattle.relay_ways.specs.Outcomes.{outcomes}
use Rattle.relay_ways.specs.Ways.{forwarded_way, possible, AddsWays}
use Rattle.relay_ways.proofs.all_ways.add_by_title.Given as goal

-- the ways of the outcomes so far are added
abbrev pub invariant-loop-outcome : goal.invariant-loop-outcome
invariant-loop-outcome l = AddsWays l.fn.found l.found
    (flat_map (λ o. possible (forwarded_way l.condition o))
    (take l.outcome-index (outcomes l.plan l.node (point_of l.plan l.node) l.octets)))
