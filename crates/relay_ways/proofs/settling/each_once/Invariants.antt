use Rattle.std.proofs.Common.{◌≡◌, [], drop}
use Rattle.relay_ways.specs.Settled.{with_marks}
use Rattle.relay_ways.proofs.settling.each_once.Given as goal

-- the marks so far, then the others, are all
abbrev pub invariant-loop-mark : goal.invariant-loop-mark
invariant-loop-mark l = with_marks l.found (drop l.mark-index l.marks) ≡ with_marks [] l.marks
