use Rattle.std.proofs.Common.{◌≡◌, ◌++◌, drop}
use Rattle.std.specs.Prelude.{filter_map}
use Rattle.relay_watch.specs.Kept.{unanswered}
use Rattle.relay_watch.proofs.ending.all_unanswered.Given as goal

-- those so far, then those of the arrivals ahead, are those of all
abbrev pub invariant-loop-arrival : goal.invariant-loop-arrival
invariant-loop-arrival l = l.found ++ filter_map (unanswered l.named) (drop l.arrival-index l.waiting)
    ≡ filter_map (unanswered l.named) l.waiting
