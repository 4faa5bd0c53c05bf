use Rattle.plan_unused.specs.Listed.{RowsSoFar}
use Rattle.plan_unused.proofs.listing.unused_rows.Given as goal

-- the unused rows of the nodes so far
abbrev pub invariant-loop-node : goal.invariant-loop-node
invariant-loop-node l = RowsSoFar l.plan l.node 0 l.found
