use Rattle.std.proofs.Common.{List, [], map, sym, subst}
use Rattle.std.specs.List.{All}
use Rattle.relay_ways.specs.Handling.{HasCondition}
use Rattle.relay_ways.specs.Ways.{ways}
use Rattle.relay_ways.specs.declared.explanation.Explanation.{Explanation}
use Rattle.relay_ways.specs.declared.way.Way.{Way}
use Rattle.relay_ways.proofs.ExplainLemmas.{AreTold, nothing_told, told_more, told_all, settled_conditions, those_among}
use Rattle.relay_ways.proofs.explaining.explain.Goals as goal

pub loop-way-init : goal.loop-way-init
loop-way-init c =
    let at = c.args.at.now in
    subst (λ (xs : List Explanation). AreTold at.plan.now at.node at.origin at.octets.now [] xs) (sym c.new-found.ensures)
    (nothing_told at.plan.now at.node at.origin at.octets.now)

pub loop-way-preserved : goal.loop-way-preserved
loop-way-preserved c =
    let at = c.args.at.now in
    told_more at.plan.now at.node at.origin at.octets.now c.as_slice-way-items.result.now c.loop-way.found c.add_told.new.found
    c.loop-way.way-index c.way-item.result c.loop-way-test.true c.way-item.is
    (subst (λ (ws : List Way). All (λ w. HasCondition w.condition (ways at.plan.now at.node at.origin at.octets.now)) ws)
    (sym c.as_slice-way-items.ensures)
    (those_among c.args.to c.args.sent.now (ways at.plan.now at.node at.origin at.octets.now) c.in_ok-kept.kept c.in_ok-kept.ensures.those))
    c.in_ok-add_told.ensures c.loop-way.invariant

pub returns-clause-conditions : goal.returns-clause-conditions
returns-clause-conditions c =
    let at = c.args.at.now in
    settled_conditions at.plan.now at.node at.origin at.octets.now c.args.to c.args.sent.now c.in_ok-kept.kept
    (map (λ x. x.condition) c.loop-way.found) c.in_ok-kept.ensures.conditions
    (told_all at.plan.now at.node at.origin at.octets.now c.in_ok-kept.kept c.as_slice-way-items.result.now c.loop-way.found
    c.loop-way.way-index c.loop-way-test.false c.as_slice-way-items.ensures c.loop-way.invariant).shortest

pub returns-clause-shortest : goal.returns-clause-shortest
returns-clause-shortest c =
    let at = c.args.at.now in
    record {
      those = c.in_ok-kept.kept;
      are = c.in_ok-kept.ensures.those;
      shortest = (told_all at.plan.now at.node at.origin at.octets.now c.in_ok-kept.kept c.as_slice-way-items.result.now c.loop-way.found
          c.loop-way.way-index c.loop-way-test.false c.as_slice-way-items.ensures c.loop-way.invariant).shortest;
    }

pub returns-clause-handled : goal.returns-clause-handled
returns-clause-handled c =
    let at = c.args.at.now in
    (told_all at.plan.now at.node at.origin at.octets.now c.in_ok-kept.kept c.as_slice-way-items.result.now c.loop-way.found
    c.loop-way.way-index c.loop-way-test.false c.as_slice-way-items.ensures c.loop-way.invariant).handled
