use Rattle.std.specs.Prelude.{ℕ, ◌∷◌, [], List, Option}
use Rattle.std.specs.List.{All}
use Rattle.std.proofs.Common.{subst, get_or, take_all}
use Rattle.plan_order.specs.declared.safe_step.SafeStep.{SafeStep}
use Rattle.plan_order.specs.Steps.{IsSafeStep}
use Rattle.plan_order.specs.Searching.{IsAlone}
use Rattle.plan_order.proofs.Members.{all_more}
use Rattle.plan_order.proofs.growing.first_safe.Goals as goal

pub loop-node-preserved : goal.loop-node-preserved
loop-node-preserved c =
    let old = c.args.plans.now.old.now in
    let new = c.args.plans.now.new.now in
    let done = c.args.done.now in
    let left = c.args.left.now in
    let i = c.loop-node.node-index in
    record {
      known = c.in_ok-step.ensures.known;
      narrow = λ h. c.loop-node.invariant.narrow (c.in_ok-step.ensures.narrow h);
      refused = λ h. all_more (λ (node : ℕ). IsSafeStep old new done (node ∷ []) → ⊥) left i c.loop-node-test.true
          (c.loop-node.invariant.refused (c.in_ok-step.ensures.narrow h))
          (subst (λ (o : Option SafeStep). IsAlone old new done (get_or left i 0) c.alone.new.known o) c.in-None.is
          c.in_ok-step.ensures.alone h);
    }

pub returns-clause-first : goal.returns-clause-first
returns-clause-first c =
    λ h. subst (λ (s : List ℕ). All (λ (node : ℕ).
    IsSafeStep c.args.plans.now.old.now c.args.plans.now.new.now c.args.done.now (node ∷ []) → ⊥) s)
    (take_all c.loop-node.node-index c.args.left.now c.loop-node-test.false) (c.loop-node.invariant.refused h)
