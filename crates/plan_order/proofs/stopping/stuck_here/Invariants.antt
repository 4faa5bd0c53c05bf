use Rattle.std.proofs.Common.{◌≡◌, take, map}
use Rattle.std.specs.List.{All}
use Rattle.plan_order.specs.declared.stuck.Stuck.{Stuck}
use Rattle.plan_order.specs.Orders.{IsStuck}
use Rattle.plan_order.proofs.stopping.stuck_here.Given as goal

-- the relays so far are stuck
abbrev pub invariant-loop-node : goal.invariant-loop-node
invariant-loop-node l = record {
  each : All (IsStuck l.plans.old.now l.plans.new.now l.done) l.stuck;
  nodes : map (λ (s : Stuck). s.node) l.stuck ≡ take l.node-index l.left;
}
