use Rattle.std.proofs.Common.{◌≡◌, ◌≤◌, length}
use Rattle.watch_items.proofs.ReadingLemmas.{left}
use Rattle.watch_items.specs.Items.{items_of}
use Rattle.watch_items.specs.Steps.{behind}
use Rattle.watch_items.proofs.reading.take_lines.Given as goal

-- the items so far and those of the lines that are left are all
abbrev pub invariant-loop-rest : goal.invariant-loop-rest
invariant-loop-rest l =
    (behind l.items (left l.number l.rest) ≡ behind l.fn.items (items_of l.fn.text)) × (l.number ≤ 1000001)

abbrev pub decreases-loop-rest : goal.decreases-loop-rest
decreases-loop-rest l = length l.rest
