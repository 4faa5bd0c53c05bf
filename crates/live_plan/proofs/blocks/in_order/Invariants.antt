use Rattle.std.proofs.Common.{◌≡◌, List, length, map, take}
use Rattle.std.specs.List.{All}
use Rattle.relay_net.specs.declared.job.Job.{Job}
use Rattle.relay_net.specs.declared.served.Served.{Served}
use Rattle.live_plan.specs.Blocks.{HasAnswers}
use Rattle.live_plan.proofs.blocks.in_order.Given as goal

abbrev pub invariant-loop-place : goal.invariant-loop-place
invariant-loop-place l = (answer : Job → Served) (jobs : List Job) → All (HasAnswers answer jobs) l.fn.blocks.items
    → All (HasAnswers answer jobs) l.left.items × (l.answers.items ≡ map answer (take (length l.answers.items) jobs))

abbrev pub decreases-loop-place : goal.decreases-loop-place
decreases-loop-place l = length l.left.items
