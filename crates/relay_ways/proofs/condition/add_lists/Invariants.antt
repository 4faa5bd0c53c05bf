use Rattle.std.proofs.Common.{◌≡◌, ◌++◌, take}
use Rattle.relay_ways.proofs.condition.add_lists.Given as goal

-- the lists so far are at the end
abbrev pub invariant-loop-marks : goal.invariant-loop-marks
invariant-loop-marks l = l.lists ≡ l.fn.lists ++ take l.marks-index l.more
