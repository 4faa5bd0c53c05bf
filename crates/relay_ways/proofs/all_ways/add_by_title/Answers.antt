use Rattle.std.proofs.Common.{◌≡◌, ◌∙◌, ap, sym, length, arith}
use Rattle.std.specs.List.{flat_map}
use Rattle.sccp_scrc.specs.Arriving.{point_of}
use Rattle.relay_ways.specs.Conditions.{both}
use Rattle.relay_ways.specs.Outcomes.{outcomes}
use Rattle.relay_ways.specs.Ways.{forwarded_way, possible}
use Rattle.relay_ways.proofs.Adding.{adds_next, adds_all, adds_same, each_among, possible_flat}
use Rattle.relay_ways.proofs.all_ways.add_by_title.Goals as goal

pub loop-outcome-preserved : goal.loop-outcome-preserved
loop-outcome-preserved c =
    adds_next (λ o. possible (forwarded_way c.args.condition.now o))
    (outcomes c.args.plan.now c.args.node (point_of c.args.plan.now c.args.node) c.args.octets.now)
    c.as_slice-outcome-items.result.now c.loop-outcome.outcome-index c.outcome-item.result c.args.found.now c.loop-outcome.found
    c.add_forwarded.new.found (c.as_slice-outcome-items.ensures ∙ c.in_ok-outcomes.ensures (point_of c.args.plan.now c.args.node))
    c.loop-outcome-test.true c.outcome-item.is c.loop-outcome.invariant
    (λ o same at. c.in_ok-add_forwarded.ensures c.args.condition.now o
    (c.in_ok-combined.ensures ∙ ap (both c.args.condition.now) (sym same))
    (each_among c.args.plan.now c.args.node (point_of c.args.plan.now c.args.node) c.args.octets.now o at))

pub returns : goal.returns
returns c =
    let all : c.loop-outcome.outcome-index ≡ length c.as_slice-outcome-items.result.now = omega arith in
    adds_same c.args.found.now c.loop-outcome.found
    (flat_map (λ o. possible (forwarded_way c.args.condition.now o))
    (outcomes c.args.plan.now c.args.node (point_of c.args.plan.now c.args.node) c.args.octets.now))
    (possible (flat_map (forwarded_way c.args.condition.now)
    (outcomes c.args.plan.now c.args.node (point_of c.args.plan.now c.args.node) c.args.octets.now)))
    (sym (possible_flat (forwarded_way c.args.condition.now)
    (outcomes c.args.plan.now c.args.node (point_of c.args.plan.now c.args.node) c.args.octets.now)))
    (adds_all (λ o. possible (forwarded_way c.args.condition.now o))
    (outcomes c.args.plan.now c.args.node (point_of c.args.plan.now c.args.node) c.args.octets.now)
    c.as_slice-outcome-items.result.now c.loop-outcome.outcome-index c.args.found.now c.loop-outcome.found
    (c.as_slice-outcome-items.ensures ∙ c.in_ok-outcomes.ensures (point_of c.args.plan.now c.args.node)) all c.loop-outcome.invariant)
