use Rattle.std.specs.List.{All}
use Rattle.live_plan.specs.Blocks.{HasAnswers, answer_in}
use Rattle.live_plan.proofs.blocks.serve_lane.Given as goal

abbrev pub invariant-loop : goal.invariant-loop
invariant-loop g l = All (HasAnswers (answer_in l.setting) l.jobs) l.blocks
