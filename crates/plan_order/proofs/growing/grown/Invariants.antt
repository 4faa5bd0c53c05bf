use Rattle.std.proofs.Common.{◌≡◌, false}
use Rattle.plan_order.specs.Searching.{IsKnown, IsNextStep}
use Rattle.plan_order.proofs.growing.grown.Given as goal

-- the step is safe
abbrev pub invariant-loop-node : goal.invariant-loop-node
invariant-loop-node l = record {
  known : IsKnown l.plans.old.now l.plans.new.now l.known;
  narrow : l.known.wide ≡ false → l.fn.known.wide ≡ false;
  step : IsNextStep l.plans.old.now l.plans.new.now l.done l.left l.step;
}
