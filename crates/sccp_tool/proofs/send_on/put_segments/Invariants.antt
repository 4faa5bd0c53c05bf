use Rattle.std.proofs.Common.{◌≡◌, ◌++◌, take}
use Rattle.std.specs.List.{flat_map}
use Rattle.sccp_tool.specs.SendOn.{to_line}
use Rattle.sccp_tool.proofs.send_on.put_segments.Given as goal

abbrev pub invariant-loop-segment : goal.invariant-loop-segment
invariant-loop-segment l = l.text ≡ l.fn.text ++ flat_map (to_line l.pc) (take l.segment-index l.segments)
