use Rattle.plan_unused.specs.Listed.{TargetsSoFar}
use Rattle.plan_unused.proofs.listing.unused_targets.Given as goal

-- the unused targets of the nodes so far
abbrev pub invariant-loop-node : goal.invariant-loop-node
invariant-loop-node l = TargetsSoFar l.plan l.node 0 0 l.found
