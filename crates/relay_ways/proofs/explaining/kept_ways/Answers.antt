use Rattle.std.proofs.Common.{List, subst}
use Rattle.relay_ways.specs.Explained.{AreThose}
use Rattle.relay_ways.specs.declared.way.Way.{Way}
use Rattle.relay_ways.proofs.ExplainLemmas.{those_more, those_whole, conditions_are}
use Rattle.relay_ways.proofs.explaining.kept_ways.Goals as goal

pub loop-way-init : goal.loop-way-init
loop-way-init c = c.new-kept.ensures

pub loop-way-preserved : goal.loop-way-preserved
loop-way-preserved c =
    those_more c.args.to c.args.sent.now c.as_slice-way-items.result.now c.loop-way.kept c.keep.new.kept c.loop-way.way-index
    c.way-item.result c.loop-way-test.true c.way-item.is c.loop-way.invariant c.in_ok-keep.ensures

pub returns-clause-conditions : goal.returns-clause-conditions
returns-clause-conditions c =
    let at = c.args.at.now in
    conditions_are at.plan.now at.node at.origin at.octets.now c.args.to c.args.sent.now c.in_ok-found.found c.loop-way.kept
    c.in_ok-found.ensures.are c.in_ok-found.ensures.possible
    (those_whole c.args.to c.args.sent.now c.in_ok-found.found c.as_slice-way-items.result.now c.loop-way.kept c.loop-way.way-index
    c.loop-way-test.false c.as_slice-way-items.ensures c.loop-way.invariant)

pub returns-clause-those : goal.returns-clause-those
returns-clause-those c =
    subst (λ (xs : List Way). AreThose c.args.to c.args.sent.now xs c.loop-way.kept) c.in_ok-found.ensures.exact
    (those_whole c.args.to c.args.sent.now c.in_ok-found.found c.as_slice-way-items.result.now c.loop-way.kept c.loop-way.way-index
    c.loop-way-test.false c.as_slice-way-items.ensures c.loop-way.invariant)
