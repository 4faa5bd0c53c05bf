use Rattle.made_load.proofs.Passing.{StillPasses}
use Rattle.made_load.proofs.load.Load.pass_all.Given as goal

abbrev pub invariant-loop-place : goal.invariant-loop-place
invariant-loop-place l = StillPasses l.plan l.upto l.place l.initial.self l.self
