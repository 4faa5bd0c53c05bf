use Rattle.std.proofs.Common.{◌≡◌, ◌++◌, ◌+◌, drop}
use Rattle.order_report.specs.Orders.{steps_text}
use Rattle.order_report.proofs.order.put_steps.Given as goal

-- the lines so far and those of the steps that are left
abbrev pub invariant-loop-i : goal.invariant-loop-i
invariant-loop-i l = l.text ++ steps_text l.plan (l.i + 1) (drop l.i l.steps) ≡ l.initial.text ++ steps_text l.plan 1 l.steps
