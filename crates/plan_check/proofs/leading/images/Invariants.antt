use Rattle.plan_check.proofs.Targets.{AreImages}
use Rattle.plan_check.proofs.leading.images.Given as goal

-- the images of the targets so far
abbrev pub invariant-loop-place : goal.invariant-loop-place
invariant-loop-place l = AreImages l.plan l.class l.place l.images
