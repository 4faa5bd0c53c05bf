use Rattle.std.proofs.Common.{◌≡◌, ◌++◌, drop, map}
use Rattle.std.specs.List.{All}
use Rattle.plan_model.specs.Network.{Network}
use Rattle.plan_model.specs.Routes.{StaysIn}
use Rattle.relay_ways.specs.Candidates.{closed_step}
use Rattle.relay_ways.proofs.turn_steps.add_closed.Given as goal

-- the steps so far, then those of the marks ahead, are those of all; and if the earlier ones stay in a plan, all do
abbrev pub invariant-loop-mark : goal.invariant-loop-mark
invariant-loop-mark l = (l.found ++ map closed_step (drop l.mark-index l.marks) ≡ l.fn.found ++ map closed_step l.marks)
    × ((plan : Network) → All (StaysIn plan) l.fn.found → All (StaysIn plan) l.found)
