use Rattle.watch_items.proofs.TurnLemmas.{turned, done}
use Rattle.watch_items.proofs.found.take_all.Goals as goal

pub loop-one-preserved : goal.loop-one-preserved
loop-one-preserved c =
    turned c.args.found.now c.loop-one.one-index _ c.in_ok-entry.entry c.loop-one.now c.in_ok-now.now c.loop-one.gatherer
    c.take_found.new.gatherer c.loop-one.items c.push_entry.new.items c.args.items.now _ c.loop-one-test.true c.loop-one.invariant
    c.in_ok-entry.ensures.gathered c.in_ok-entry.ensures.entry c.in_ok-now.ensures.now c.in_ok-now.ensures.items

pub returns-clause-now : goal.returns-clause-now
returns-clause-now c =
    (done c.args.found.now c.loop-one.one-index _ c.loop-one.items c.args.items.now _ c.loop-one-test.false c.loop-one.invariant).0

pub returns-clause-items : goal.returns-clause-items
returns-clause-items c =
    (done c.args.found.now c.loop-one.one-index _ c.loop-one.items c.args.items.now _ c.loop-one-test.false c.loop-one.invariant).1
