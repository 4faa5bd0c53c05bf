use Rattle.std.proofs.Common.{◌≡◌, ◌++◌, take}
use Rattle.relay_ways.proofs.condition.add_marks.Given as goal

-- the marks so far are at the end
abbrev pub invariant-loop-mark : goal.invariant-loop-mark
invariant-loop-mark l = l.list ≡ l.fn.list ++ take l.mark-index l.more
