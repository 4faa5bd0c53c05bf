use Rattle.std.specs.Prelude.{ℕ, ◌≡◌, false, List, Option}
use Rattle.std.proofs.Common.{◌∙◌, subst}
use Rattle.plan_order.specs.Steps.{IsSafeStep}
use Rattle.plan_order.specs.Searching.{IsBoundOf}
use Rattle.plan_order.proofs.growing.alone.Goals as goal

pub returns-in-None-clause-alone : goal.returns-in-None-clause-alone
returns-in-None-clause-alone c =
    subst (λ (s : List ℕ). c.bound_of.new.known.wide ≡ false
    → IsSafeStep c.args.plans.now.old.now c.args.plans.now.new.now c.args.done.now s → ⊥) (c.as_slice.ensures ∙ c.in_ok-nodes.ensures)
    (subst (λ (o : Option ℕ). IsBoundOf c.args.plans.now.old.now c.args.plans.now.new.now c.args.done.now c.as_slice.result.now
    c.bound_of.new.known o) c.in-None.is c.in_ok-bound.ensures.bound)
