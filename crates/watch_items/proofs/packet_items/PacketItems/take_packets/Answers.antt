use Rattle.std.proofs.Common.{map}
use Rattle.capture_file.specs.Views.{captured}
use Rattle.watch_items.proofs.PacketLemmas.{turned, done}
use Rattle.watch_items.proofs.packet_items.PacketItems.take_packets.Goals as goal

pub loop-held-preserved : goal.loop-held-preserved
loop-held-preserved c =
    turned c.args.packets.now c.loop-held.held-index c.held-item.result c.loop-held.items c.take.new.items c.args.items.now
    c.loop-held.self c.take.new.self c.args.self.now (map captured c.args.packets.now) c.loop-held-test.true
    c.held-item.is c.loop-held.invariant c.in_ok-take.ensures.now c.in_ok-take.ensures.items

pub returns-clause-now : goal.returns-clause-now
returns-clause-now c =
    (done c.args.packets.now c.loop-held.held-index c.loop-held.items c.args.items.now c.loop-held.self c.args.self.now
    (map captured c.args.packets.now) c.loop-held-test.false c.loop-held.invariant).0

pub returns-clause-items : goal.returns-clause-items
returns-clause-items c =
    (done c.args.packets.now c.loop-held.held-index c.loop-held.items c.args.items.now c.loop-held.self c.args.self.now
    (map captured c.args.packets.now) c.loop-held-test.false c.loop-held.invariant).1
