use Rattle.std.proofs.Common.{◌≡◌, ◌++◌, take}
use Rattle.std.specs.List.{flat_map}
use Rattle.watch_text.specs.Ways.{next_list}
use Rattle.watch_text.proofs.ways.put_next_lists.Given as goal

abbrev pub invariant-loop-marks : goal.invariant-loop-marks
invariant-loop-marks l = l.text ≡ l.initial.text ++ flat_map next_list (take l.marks-index l.lists)
