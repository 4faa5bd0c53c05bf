use Rattle.std.specs.Prelude.{[]}
use Rattle.std.proofs.Common.{sym, subst}
use Rattle.plan_order.specs.declared.found.Found.{Found}
use Rattle.plan_order.specs.Searching.{IsSplit, IsFound}
use Rattle.plan_order.proofs.Splitting.{steps_lawful}
use Rattle.plan_order.proofs.Refusals.{undecided}
use Rattle.plan_order.proofs.ordering.order_of.Goals as goal

pub returns-in-Steps : goal.returns-in-Steps
returns-in-Steps c =
    steps_lawful c.args.plans.now.old.now c.args.plans.now.new.now c.as_slice.result.now c.in-Steps.steps
    (subst (IsSplit c.args.plans.now.old.now c.args.plans.now.new.now []) (sym c.as_slice.ensures) c.in_ok-left.ensures)
    (subst (λ (f : Found). IsFound c.args.plans.now.old.now c.args.plans.now.new.now [] c.as_slice.result.now c.seek.new.known f)
    c.in-Steps.is c.in_ok-found.ensures.found)

pub returns : goal.returns
returns c =
    undecided c.args.plans.now.old.now c.args.plans.now.new.now c.seek.new.known c.in_ok-found.ensures.known
    (subst (λ (f : Found). IsFound c.args.plans.now.old.now c.args.plans.now.new.now [] c.as_slice.result.now c.seek.new.known f)
    c.in-GaveUp.is c.in_ok-found.ensures.found)
