use Rattle.std.proofs.Common.{sym, ◌∙◌, subst}
use Rattle.std.specs.Prelude.{◌<◌, length}
use Rattle.std.specs.List.{All}
use Rattle.sccp_report.specs.Hops.{IsHopIn}
use Rattle.sccp_report.proofs.InPlan.{route_in}
use Rattle.sccp_report.proofs.InVerdict.{longest_begins}
use Rattle.sccp_report.proofs.verdict.put_longest.Goals as goal

pub put_hops-requires-clause-nodes : goal.put_hops-requires-clause-nodes
put_hops-requires-clause-nodes c =
    let here : c.longest-longest.result.now.spot.node < length c.args.plan.now.nodes =
    subst (λ l. l.spot.node < length c.args.plan.now.nodes) (sym c.longest-longest.ensures.value)
    (longest_begins c.args.plan.now c.args.accepted.now c.nodes.ensures.sound c.longest-longest.ensures.verified c.requires) in
    subst (All (IsHopIn c.args.plan.now)) (sym (c.as_slice-2.ensures ∙ c.in_ok-hops.ensures))
    (route_in c.args.plan.now _ _ c.nodes.ensures.sound here)
