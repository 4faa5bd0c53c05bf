use Rattle.plan_unused.specs.Listed.{TargetsSoFar}
use Rattle.plan_unused.proofs.listing.add_targets.Given as goal

-- the unused targets of the rows so far
abbrev pub invariant-loop-row : goal.invariant-loop-row
invariant-loop-row l = TargetsSoFar l.plan l.node l.row 0 l.found
