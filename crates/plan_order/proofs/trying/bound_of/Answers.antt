use Rattle.std.specs.Prelude.{List, IsTrue}
use Rattle.std.specs.List.{All, Any}
use Rattle.std.proofs.Common.{subst}
use Rattle.plan_order.specs.declared.held.Held.{Held}
use Rattle.plan_order.specs.Refusing.{lets}
use Rattle.plan_order.proofs.Fitting.{refused_not_safe}
use Rattle.plan_order.proofs.trying.bound_of.Goals as goal

pub returns-then-is_refused-clause-bound : goal.returns-then-is_refused-clause-bound
returns-then-is_refused-clause-bound c =
    λ narrow. refused_not_safe c.args.plans.now.old.now c.args.plans.now.new.now c.args.known.now c.args.done.now c.args.step.now
    c.requires.known
    (subst (λ (refusals : List (List Held)).
    Any (λ refusal. All (λ held. IsTrue (lets c.args.done.now c.args.step.now held)) refusal) refusals)
    c.as_slice.ensures (c.is_refused.ensures.0 c.if-is_refused.true))
