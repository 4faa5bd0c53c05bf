use Rattle.std.proofs.Common.{◌≡◌, map}
use Rattle.std.specs.List.{range_with_len}
use Rattle.plan_order.specs.Steps.{holding}
use Rattle.plan_order.proofs.trying.during.Given as goal

-- what the relays so far may hold
abbrev pub invariant-loop-node : goal.invariant-loop-node
invariant-loop-node l = l.may ≡ map (holding l.done l.step) (range_with_len 0 l.node)
