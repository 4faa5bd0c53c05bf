use Rattle.std.proofs.Common.{map}
use Rattle.capture_file.specs.Views.{captured}
use Rattle.sccp_capture.proofs.PacketLemmas.{turned, done}
use Rattle.sccp_capture.proofs.printing.put_packets.Goals as goal

pub loop-held-preserved : goal.loop-held-preserved
loop-held-preserved c =
    turned c.args.plan.now c.args.packets.now c.loop-held.held-index c.held-item.result c.loop-held.text.items c.take.new.text.items
    c.args.text.now.items c.loop-held.capture c.take.new.self c.args.capture.now (map captured c.args.packets.now) c.loop-held-test.true
    c.held-item.is c.loop-held.invariant c.in_ok-take.ensures.now c.in_ok-take.ensures.text

pub returns-clause-now : goal.returns-clause-now
returns-clause-now c =
    (done c.args.plan.now c.args.packets.now c.loop-held.held-index c.loop-held.text.items c.args.text.now.items c.loop-held.capture
    c.args.capture.now (map captured c.args.packets.now) c.loop-held-test.false c.loop-held.invariant).0

pub returns-clause-text : goal.returns-clause-text
returns-clause-text c =
    (done c.args.plan.now c.args.packets.now c.loop-held.held-index c.loop-held.text.items c.args.text.now.items c.loop-held.capture
    c.args.capture.now (map captured c.args.packets.now) c.loop-held-test.false c.loop-held.invariant).1
