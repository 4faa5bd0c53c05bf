use Rattle.std.proofs.Common.{◌≡◌, length}
use Rattle.std.specs.Arc.{arc_value}
use Rattle.std.specs.List.{All}
use Rattle.live_plan.specs.Plans.{nodes_of}
use Rattle.live_plan.proofs.resting.spare_plans.Given as goal

abbrev pub invariant-loop-turn : goal.invariant-loop-turn
invariant-loop-turn l =
    (length l.plans.items ≡ l._turn) × All (λ plan. nodes_of (arc_value (arc_value plan)) ≡ l.fn.teller.nodes) l.plans.items
