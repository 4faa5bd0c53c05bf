use Rattle.std.proofs.Common.{◌≡◌, [], drop}
use Rattle.relay_ways.specs.Settled.{with_lists}
use Rattle.relay_ways.proofs.settling.lists_once.Given as goal

-- the lists so far, then the others, are all
abbrev pub invariant-loop-marks : goal.invariant-loop-marks
invariant-loop-marks l = with_lists l.none_of l.found (drop l.marks-index l.lists) ≡ with_lists l.none_of [] l.lists
