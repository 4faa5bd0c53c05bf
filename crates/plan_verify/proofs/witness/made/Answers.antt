use Rattle.std.specs.Prelude.{List, IsTrue, ◌↔◌}
use Rattle.std.specs.List.{All}
use Rattle.std.proofs.Common.{◌∙◌, ap, subst, sym}
use Rattle.sccp_base.specs.Marks.{IsMarking}
use Rattle.sccp_base.specs.declared.mark.Mark.{Mark}
use Rattle.plan_model.specs.declared.hop.Hop.{Hop}
use Rattle.plan_model.specs.Routes.{route}
use Rattle.plan_model.specs.Verdicts.{Bad, IsSteady}
use Rattle.plan_model.proofs.SafeWays.{covered_by}
use Rattle.plan_model.proofs.Spots.{in_range}
use Rattle.plan_verify.proofs.witness.made.Goals as goal

pub returns : goal.returns
returns c =
    let plan = c.args.plan.now in
    let spot = c.args.spot.now in
    record {
      bad =
          subst (λ (hops : List Hop). Bad plan c.args.cover spot c.args.markings hops c.args.kind)
          (sym (c.in_ok-hops.ensures ∙ ap (route plan spot) c.as_slice-2.ensures)) c.requires.bad;
      steady =
          subst (λ (ms : List (List Mark)). IsTrue c.in_ok-steady.steady ↔ IsSteady plan spot ms c.in_ok-hops.hops) c.as_slice-3.ensures
          (subst (λ (hops : List Hop). IsTrue c.in_ok-steady.steady
          ↔ IsSteady plan spot c.as_slice-3.result.now hops) c.as_slice-4.ensures c.in_ok-steady.ensures);
      range = in_range plan spot c.args.markings c.requires.plan
          (covered_by plan c.args.cover spot c.requires.bad.covered)
          (subst (All IsMarking) c.as_slice.ensures c.vouch.ensures);
    }
