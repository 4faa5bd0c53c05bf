use Rattle.made_load.proofs.Parting.{JoinsTo}
use Rattle.made_load.proofs.parts.load_counts.Given as goal

abbrev pub invariant-loop-part : goal.invariant-loop-part
invariant-loop-part g l = JoinsTo l.number l.size l.parts l.part l.counts
