use Rattle.std.proofs.Common.{List, sym, subst, arith}
use Rattle.plan_unused.specs.declared.survey.TargetPlace.{TargetPlace}
use Rattle.plan_unused.specs.Listed.{TargetsSoFar}
use Rattle.plan_unused.proofs.InOrder.{targets_none, targets_all}
use Rattle.plan_unused.proofs.listing.unused_targets.Goals as goal

pub loop-node-init : goal.loop-node-init
loop-node-init c = subst (λ (xs : List TargetPlace). TargetsSoFar c.args.plan.now 0 0 0 xs) (sym c.new-found.ensures)
    (targets_none c.args.plan.now)

pub returns : goal.returns
returns c =
    targets_all c.args.plan.now c.loop-node.node c.loop-node.found
    (omega (arith, c.node_count-node-end.ensures.count, c.loop-node-test.false)) c.loop-node.invariant
