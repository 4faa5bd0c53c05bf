use Rattle.live_plan.proofs.Passed.{has_due}
use Rattle.live_plan.proofs.publishing.publish_all.Goals as goal

pub advance-requires : goal.advance-requires
advance-requires g c = has_due _ _ _ _ _ c.loop-next.invariant.0 c.in-Some.ensures.items
