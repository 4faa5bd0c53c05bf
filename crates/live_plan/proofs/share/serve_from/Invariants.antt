use Rattle.std.proofs.Common.{length, ◌-◌, ◌≡◌, ◌*◌, ◌+◌, ◌<◌, List}
use Rattle.plan_check.specs.Verified.{Verified}
use Rattle.live_plan.specs.Batches.{IsShare, GoesOn, Follows, Counted}
use Rattle.live_plan.proofs.share.serve_from.Given as goal

abbrev pub invariant-loop-at : goal.invariant-loop-at
invariant-loop-at g l =
    (l.at ≡ length l.answers.items * l.count + l.share) × GoesOn l.fn.worker l.worker × (l.fn.share < l.at → Counted l.fn.worker l.worker)
    × ((plans : List Verified) → Follows plans l.fn.worker
    → IsShare plans l.batch l.count l.share l.fn.worker.kept.number l.worker.kept.number l.answers.items)

abbrev pub decreases-loop-at : goal.decreases-loop-at
decreases-loop-at g l = length l.batch.jobs.now - l.at
