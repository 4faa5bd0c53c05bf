use Rattle.std.proofs.Common.{get_or}
use Rattle.plan_order.proofs.Findings.{next_grown}
use Rattle.plan_order.proofs.Members.{in-at}
use Rattle.plan_order.proofs.growing.grown.Goals as goal

pub loop-node-preserved : goal.loop-node-preserved
loop-node-preserved c =
    let left = c.args.left.now in
    let i = c.loop-node.node-index in
    record {
      known = c.in_ok-step.ensures.known;
      narrow = λ h. c.loop-node.invariant.narrow (c.in_ok-step.ensures.narrow h);
      step = next_grown c.args.plans.now.old.now c.args.plans.now.new.now c.args.done.now left c.loop-node.step c.in_ok-step.step
          (get_or left i 0) (in-at left i c.loop-node-test.true) c.loop-node.invariant.step c.in_ok-step.ensures.grown;
    }
