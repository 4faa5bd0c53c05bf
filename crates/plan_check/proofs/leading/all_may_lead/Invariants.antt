use Rattle.std.proofs.Common.{take}
use Rattle.std.specs.List.{All}
use Rattle.plan_check.specs.Checks.{MayLead}
use Rattle.plan_check.proofs.leading.all_may_lead.Given as goal

-- the images so far are other classes or allowed ends
abbrev pub invariant-loop-image : goal.invariant-loop-image
invariant-loop-image l = All (MayLead l.plan l.cover) (take l.image-index l.images)
