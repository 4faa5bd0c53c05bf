use Rattle.std.proofs.Common.{◌≡◌, ◌++◌, drop}
use Rattle.relay_ways.specs.Settled.{allowed}
use Rattle.relay_ways.proofs.settling.allowed.Given as goal

-- the marks so far, then the others, are all
abbrev pub invariant-loop-mark : goal.invariant-loop-mark
invariant-loop-mark l = l.found ++ allowed l.none_of (drop l.mark-index l.marks) ≡ allowed l.none_of l.marks
