use Rattle.std.proofs.Common.{ℕ, List, sym, subst, arith}
use Rattle.plan_unused.specs.Listed.{RelaysSoFar}
use Rattle.plan_unused.proofs.InOrder.{relays_none, relays_all}
use Rattle.plan_unused.proofs.listing.unused_relays.Goals as goal

pub loop-node-init : goal.loop-node-init
loop-node-init c = subst (λ (xs : List ℕ). RelaysSoFar c.args.plan.now 0 xs) (sym c.new-found.ensures) (relays_none c.args.plan.now)

pub returns : goal.returns
returns c =
    relays_all c.args.plan.now c.loop-node.node c.loop-node.found
    (omega (arith, c.node_count-node-end.ensures.count, c.loop-node-test.false)) c.loop-node.invariant
