use Rattle.plan_unused.specs.Listed.{TargetsSoFar}
use Rattle.plan_unused.proofs.listing.add_row_targets.Given as goal

-- the unused targets so far
abbrev pub invariant-loop-target : goal.invariant-loop-target
invariant-loop-target l = TargetsSoFar l.plan l.place.node l.place.row l.target l.found
