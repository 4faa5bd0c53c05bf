use Rattle.std.proofs.Common.{◌≡◌, drop, map}
use Rattle.std.specs.List.{filter}
use Rattle.relay_ways.specs.WhyNot.{by_candidate, by_candidates, has_cause, latest}
use Rattle.relay_ways.proofs.reasoning.by_candidates.Given as goal

-- the latest so far, then the candidates ahead, give that of all
abbrev pub invariant-loop-one : goal.invariant-loop-one
invariant-loop-one l = latest l.latest (map (by_candidate l.to l.sent) (filter (has_cause l.cause) (drop l.one-index l.found)))
    ≡ by_candidates l.to l.sent (filter (has_cause l.cause) l.found)
