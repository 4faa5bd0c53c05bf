use Rattle.std.proofs.Common.{◌≡◌, ◌++◌, take}
use Rattle.std.specs.List.{flat_map}
use Rattle.watch_text.specs.Ways.{or_mark}
use Rattle.watch_text.proofs.ways.put_or_marks.Given as goal

abbrev pub invariant-loop-mark : goal.invariant-loop-mark
invariant-loop-mark l = l.text ≡ l.initial.text ++ flat_map or_mark (take l.mark-index l.marks)
