use Rattle.std.proofs.Common.{◌≡◌, take, filter}
use Rattle.plan_order.specs.Searching.{is_out}
use Rattle.plan_order.proofs.sets.without.Given as goal

-- those that are left of the relays so far
abbrev pub invariant-loop-node : goal.invariant-loop-node
invariant-loop-node l = l.rest ≡ filter (is_out l.step) (take l.node-index l.left)
