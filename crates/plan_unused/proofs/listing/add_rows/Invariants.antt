use Rattle.plan_unused.specs.Listed.{RowsSoFar}
use Rattle.plan_unused.proofs.listing.add_rows.Given as goal

-- the unused rows so far
abbrev pub invariant-loop-row : goal.invariant-loop-row
invariant-loop-row l = RowsSoFar l.plan l.node l.row l.found
