use Rattle.std.proofs.Common.{◌≡◌, ◌++◌, drop}
use Rattle.std.specs.List.{All}
use Rattle.plan_model.specs.Routes.{StaysIn}
use Rattle.relay_ways.specs.Candidates.{taken_steps}
use Rattle.relay_ways.proofs.turn_steps.add_taken.Given as goal

-- the steps so far, then those of the targets ahead, are those of all; and if the earlier ones stay in the plan, all do
abbrev pub invariant-loop-place : goal.invariant-loop-place
invariant-loop-place l = (l.found ++ taken_steps l.plan l.node l.spot l.place (drop l.place l.targets)
    ≡ l.fn.found ++ taken_steps l.plan l.node l.spot 0 l.targets) × (All (StaysIn l.plan) l.fn.found → All (StaysIn l.plan) l.found)
