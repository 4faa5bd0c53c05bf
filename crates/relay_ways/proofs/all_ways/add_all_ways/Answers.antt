use Rattle.std.proofs.Common.{◌≡◌, ◌∙◌, length, arith}
use Rattle.relay_ways.specs.Outcomes.{outcomes}
use Rattle.relay_ways.specs.Ways.{possible_ways}
use Rattle.relay_ways.proofs.Adding.{adds_next, adds_all, adds_ways, each_among}
use Rattle.relay_ways.proofs.all_ways.add_all_ways.Goals as goal

pub loop-outcome-preserved : goal.loop-outcome-preserved
loop-outcome-preserved c =
    adds_next (possible_ways c.args.at.now.plan.now c.args.at.now.node)
    (outcomes c.args.at.now.plan.now c.args.at.now.node c.args.at.now.origin c.args.at.now.octets.now)
    c.as_slice-outcome-items.result.now c.loop-outcome.outcome-index c.outcome-item.result c.args.found.now c.loop-outcome.found
    c.add_ways_under.new.found (c.as_slice-outcome-items.ensures ∙ c.in_ok-outcomes.ensures c.args.at.now.origin) c.loop-outcome-test.true
    c.outcome-item.is c.loop-outcome.invariant
    (λ o same at. c.in_ok-add_ways_under.ensures o same
    (each_among c.args.at.now.plan.now c.args.at.now.node c.args.at.now.origin c.args.at.now.octets.now o at))

pub returns : goal.returns
returns c =
    let all : c.loop-outcome.outcome-index ≡ length c.as_slice-outcome-items.result.now = omega arith in
    adds_ways c.args.at.now.plan.now c.args.at.now.node c.args.at.now.origin c.args.at.now.octets.now c.args.found.now c.loop-outcome.found
    (adds_all (possible_ways c.args.at.now.plan.now c.args.at.now.node)
    (outcomes c.args.at.now.plan.now c.args.at.now.node c.args.at.now.origin c.args.at.now.octets.now)
    c.as_slice-outcome-items.result.now c.loop-outcome.outcome-index c.args.found.now c.loop-outcome.found
    (c.as_slice-outcome-items.ensures ∙ c.in_ok-outcomes.ensures c.args.at.now.origin) all c.loop-outcome.invariant)
