use Rattle.std.proofs.Common.{◌≡◌, ◌≤◌, length, IfOk, sym, ◌∙◌, ap, subst}
use Rattle.std.specs.List.{All}
use Rattle.plan_model.specs.Routes.{route}
use Rattle.sccp_report.specs.Hops.{hops_text, IsHopIn}
use Rattle.sccp_report.proofs.InPlan.{route_in, route_short}
use Rattle.sccp_plans.specs.Route.{unmarked, hops_from}
use Rattle.sccp_plans.proofs.following.hops_from.Goals as goal

pub hops_text-requires-clause-nodes : goal.hops_text-requires-clause-nodes
hops_text-requires-clause-nodes c =
    subst (All (IsHopIn c.args.plan.now)) (sym c.in_ok-hops.ensures)
    (route_in c.args.plan.now c.args.spot c.as_slice-held.result.now c.requires.sound c.requires.node)

pub hops_text-requires-clause-enough : goal.hops_text-requires-clause-enough
hops_text-requires-clause-enough c =
    subst (λ hops. length hops ≤ length c.as_slice-held.result.now) (sym c.in_ok-hops.ensures)
    (route_short c.args.plan.now c.args.spot c.as_slice-held.result.now)

pub returns : goal.returns
unfolding hops_from
returns c =
    let plan = c.args.plan.now in
    let spot = c.args.spot in
    let held : c.as_slice-held.result.now ≡ unmarked = c.as_slice-held.ensures.value ∙ c.in_ok-markings.ensures in
    let hops : c.in_ok-hops.hops ≡ route plan spot unmarked = c.in_ok-hops.ensures ∙ ap (λ ms. route plan spot ms) held in
    let text : hops_text plan c.in_ok-hops.hops c.as_slice-held.result.now ≡ hops_text plan (route plan spot unmarked) unmarked =
    ap (λ hs. hops_text plan hs c.as_slice-held.result.now) hops ∙ ap (λ ms. hops_text plan (route plan spot unmarked) ms) held in
    subst (λ t. IfOk c.hops_text.result (λ text. text ≡ t)) text c.hops_text.ensures
