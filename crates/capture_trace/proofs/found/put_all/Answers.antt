use Rattle.capture_trace.proofs.Turns.{turned, done}
use Rattle.capture_trace.proofs.found.put_all.Goals as goal

pub loop-one-preserved : goal.loop-one-preserved
loop-one-preserved c =
    turned c.args.plan.now c.args.found.now c.loop-one.one-index _ c.in_ok-kind.kind c.loop-one.now c.in_ok-now.now c.loop-one.gatherer
    c.put_found.new.gatherer c.loop-one.text.items c.put_found.new.text.items c.args.text.now.items _ c.loop-one-test.true
    c.loop-one.invariant
    c.in_ok-kind.ensures.gathered c.in_ok-kind.ensures.kind c.in_ok-now.ensures c.in_ok-kind.ensures.text

pub returns-clause-now : goal.returns-clause-now
returns-clause-now c =
    (done c.args.plan.now c.args.found.now c.loop-one.one-index _ c.loop-one.text.items c.args.text.now.items _ c.loop-one-test.false
    c.loop-one.invariant).0

pub returns-clause-text : goal.returns-clause-text
returns-clause-text c =
    (done c.args.plan.now c.args.found.now c.loop-one.one-index _ c.loop-one.text.items c.args.text.now.items _ c.loop-one-test.false
    c.loop-one.invariant).1
