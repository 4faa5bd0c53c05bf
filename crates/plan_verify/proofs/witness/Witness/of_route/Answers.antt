use Rattle.std.proofs.Common.{◌≢◌, ◌∙◌, ap, subst, sym}
use Rattle.std.specs.List.{AllPairs}
use Rattle.plan_model.specs.declared.hop.Hop.{Hop}
use Rattle.plan_model.specs.Routes.{route}
use Rattle.plan_verify.proofs.Cuts.{loop_made, end_made, end_seen}
use Rattle.plan_verify.proofs.witness.Witness.of_route.Goals as goal

pub made-requires-clause-bad : goal.made-requires-clause-bad
made-requires-clause-bad c =
    loop_made c.args.plan.now c.args.cover c.args.spot.now c.args.markings c.first_ones-markings.result c.as_slice-2.result.now
    c.in-Some.from c.in-Some.back c.requires.covered c.requires.bad
    (c.as_slice-2.ensures ∙ (c.in_ok-hops.ensures
    ∙ ap (route c.args.plan.now c.args.spot.now) c.as_slice.ensures)) c.in-Some.ensures.found c.first_ones-markings.ensures

pub end_of-kind-requires-clause-apart : goal.end_of-kind-requires-clause-apart
end_of-kind-requires-clause-apart c = subst (AllPairs (λ (a b : Hop). a.spot ≢ b.spot)) (c.as_slice-2.ensures
    ∙ sym c.as_slice-in-None.ensures) (c.first_return.ensures.none c.in-None.is)

pub end_of-kind-requires-clause-ends : goal.end_of-kind-requires-clause-ends
end_of-kind-requires-clause-ends c =
    end_seen c.args.plan.now c.args.cover c.args.spot.now c.args.markings c.as_slice-in-None.result.now c.requires.bad
    (c.as_slice-in-None.ensures ∙ (c.in_ok-hops.ensures ∙ ap (route c.args.plan.now c.args.spot.now) c.as_slice.ensures))

pub made-requires-in-None-clause-bad : goal.made-requires-in-None-clause-bad
made-requires-in-None-clause-bad c =
    end_made c.args.plan.now c.args.cover c.args.spot.now c.args.markings c.as_slice-in-None.result.now c.end_of-kind.result
    c.requires.covered c.requires.bad
    (c.as_slice-in-None.ensures ∙ (c.in_ok-hops.ensures ∙ ap (route c.args.plan.now c.args.spot.now) c.as_slice.ensures))
    c.end_of-kind.ensures
