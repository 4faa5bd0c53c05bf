use Rattle.std.proofs.Common.{take}
use Rattle.relay_ways.specs.Explained.{AreThose}
use Rattle.relay_ways.proofs.explaining.kept_ways.Given as goal

-- the ways so far that send such a message are kept
abbrev pub invariant-loop-way : goal.invariant-loop-way
invariant-loop-way l = AreThose l.to l.sent (take l.way-index l.way-items) l.kept
