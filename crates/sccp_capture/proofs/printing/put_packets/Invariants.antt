use Rattle.std.proofs.Common.{map, drop}
use Rattle.capture_file.specs.Views.{captured}
use Rattle.sccp_capture.proofs.PacketLemmas.{Goes}
use Rattle.sccp_capture.proofs.printing.put_packets.Given as goal

-- what is there, and the text of the packets that are left
abbrev pub invariant-loop-held : goal.invariant-loop-held
invariant-loop-held l =
    Goes l.plan l.text.items l.capture (map captured (drop l.held-index l.packets)) l.fn.text.items l.fn.capture (map captured l.packets)
