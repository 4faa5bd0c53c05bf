use Rattle.std.proofs.Common.{take}
use Rattle.std.specs.List.{flat_map}
use Rattle.relay_ways.specs.Outcomes.{outcomes}
use Rattle.relay_ways.specs.Ways.{possible_ways, AddsWays}
use Rattle.relay_ways.proofs.all_ways.add_all_ways.Given as goal

-- the ways of the outcomes so far are added
abbrev pub invariant-loop-outcome : goal.invariant-loop-outcome
invariant-loop-outcome l = AddsWays l.fn.found l.found
    (flat_map (possible_ways l.at.plan.now l.at.node) (take l.outcome-index (outcomes l.at.plan.now l.at.node l.at.origin l.at.octets.now)))
