use Rattle.std.proofs.Common.{◌≡◌, ◌++◌, drop, map}
use Rattle.live_plan.specs.Blocks.{answer_in}
use Rattle.live_plan.proofs.blocks.serve_each.Given as goal

abbrev pub invariant-loop-job : goal.invariant-loop-job
invariant-loop-job g l = let answer = answer_in l.setting in l.answers ++ map answer (drop l.job-index l.jobs) ≡ map answer l.fn.jobs
