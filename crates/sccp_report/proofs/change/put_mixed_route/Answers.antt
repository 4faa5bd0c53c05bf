use Rattle.std.proofs.Common.{◌≤◌, List, [], length, sym, subst, ◌∙◌}
use Rattle.plan_check.proofs.Covering.{covered_node}
use Rattle.plan_change.proofs.Verdicts.{same_length}
use Rattle.plan_change.specs.declared.mixed_hop.MixedHop.{MixedHop}
use Rattle.plan_change.specs.Mixture.{mixed}
use Rattle.plan_change.proofs.Holdings.{tags_short}
use Rattle.sccp_report.proofs.change.put_mixed_route.Goals as goal

pub mixed_hops-requires-clause-same : goal.mixed_hops-requires-clause-same
mixed_hops-requires-clause-same c = same_length c.args.old.now c.args.new.now c.requires.same

pub mixed_hops-requires-clause-node : goal.mixed_hops-requires-clause-node
mixed_hops-requires-clause-node c = covered_node c.args.old.now c.args.spot.now c.requires.old c.requires.covered

pub put_mixed_hops-requires : goal.put_mixed_hops-requires
put_mixed_hops-requires c =
    subst (λ (hops : List MixedHop). length hops ≤ length c.args.turns.now) (sym (c.as_slice.ensures ∙ c.in_ok-hops.ensures))
    (tags_short [] (mixed c.args.old.now c.args.new.now c.args.spot.now c.args.turns.now) c.args.turns.now)
