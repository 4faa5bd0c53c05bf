use Rattle.live_plan.specs.Blocks.{HasAnswers}
use Rattle.live_plan.proofs.Joined.{all_taken}
use Rattle.live_plan.proofs.blocks.all_blocks.Goals as goal

pub loop-lane-preserved : goal.loop-lane-preserved
loop-lane-preserved c = λ answer jobs h. all_taken
    (HasAnswers answer jobs) c.loop-lane.left.items c.pop.new.self.items c.in-Some.lane c.loop-lane.blocks.items c.put.new.blocks.items
    c.in-Some.ensures.items c.in_ok-put.ensures (c.loop-lane.invariant answer jobs h)
