use Rattle.plan_unused.proofs.InOrder.{GapsSoFar}
use Rattle.plan_unused.proofs.listing.gaps.Given as goal

-- the gaps of the covers so far
abbrev pub invariant-loop-cover : goal.invariant-loop-cover
invariant-loop-cover l = GapsSoFar l.plan l.cover l.found
