use Rattle.std.proofs.Common.{map, drop}
use Rattle.capture_file.specs.Views.{captured}
use Rattle.watch_items.proofs.PacketLemmas.{Goes}
use Rattle.watch_items.proofs.packet_items.PacketItems.take_packets.Given as goal

-- what is there, and the items of the packets that are left
abbrev pub invariant-loop-held : goal.invariant-loop-held
invariant-loop-held l =
    Goes l.items l.self (map captured (drop l.held-index l.packets)) l.fn.items l.fn.self (map captured l.packets)
