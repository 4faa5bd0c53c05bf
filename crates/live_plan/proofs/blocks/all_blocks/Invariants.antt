use Rattle.std.proofs.Common.{List, length}
use Rattle.std.specs.List.{All}
use Rattle.relay_net.specs.declared.job.Job.{Job}
use Rattle.relay_net.specs.declared.served.Served.{Served}
use Rattle.live_plan.specs.Blocks.{HasAnswers}
use Rattle.live_plan.proofs.blocks.all_blocks.Given as goal

abbrev pub invariant-loop-lane : goal.invariant-loop-lane
invariant-loop-lane l = (answer : Job → Served) (jobs : List Job) → All (λ lane. All (HasAnswers answer jobs) lane) l.fn.lanes.items
    → All (λ lane. All (HasAnswers answer jobs) lane) l.left.items × All (HasAnswers answer jobs) l.blocks.items

abbrev pub decreases-loop-lane : goal.decreases-loop-lane
decreases-loop-lane l = length l.left.items
