use Rattle.plan_covers.proofs.Listing.{AreSoFar}
use Rattle.plan_covers.proofs.needless.list_needless.Given as goal

-- the needless covers so far are listed
abbrev pub invariant-loop-place : goal.invariant-loop-place
invariant-loop-place l = AreSoFar l.covers l.place l.found
