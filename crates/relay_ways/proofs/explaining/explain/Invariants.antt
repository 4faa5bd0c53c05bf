use Rattle.std.proofs.Common.{take}
use Rattle.relay_ways.proofs.ExplainLemmas.{AreTold}
use Rattle.relay_ways.proofs.explaining.explain.Given as goal

-- what is given of the ways so far
abbrev pub invariant-loop-way : goal.invariant-loop-way
invariant-loop-way l = AreTold l.at.plan.now l.at.node l.at.origin l.at.octets.now (take l.way-index l.way-items) l.found
