use Rattle.std.proofs.Common.{◌≡◌, ◌∙◌, IsTrue, ◌↔◌, List, ap, subst}
use Rattle.plan_model.specs.declared.hop.Hop.{Hop}
use Rattle.plan_model.specs.Routes.{route}
use Rattle.plan_verify.proofs.SameSteps.{steady_is}
use Rattle.plan_verify.proofs.steady.is_steady.Goals as goal

pub returns : goal.returns
returns c =
    steady_is c.args.plan.now c.args.spot.now c.args.markings.now c.in_ok-one.one c.args.hops.now c.are_same.result c.in_ok-one.ensures
    (subst (λ (xs : List Hop). IsTrue c.are_same.result ↔ (xs ≡ c.args.hops.now))
    (c.as_slice-2.ensures ∙ (c.in_ok-others.ensures ∙ ap (route c.args.plan.now c.args.spot.now) (c.as_slice.ensures
    ∙ c.in_ok-copies.ensures)))
    c.are_same.ensures)
