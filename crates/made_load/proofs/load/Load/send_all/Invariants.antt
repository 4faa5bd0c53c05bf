use Rattle.made_load.proofs.Sending.{StillSends}
use Rattle.made_load.proofs.load.Load.send_all.Given as goal

abbrev pub invariant-loop-place : goal.invariant-loop-place
invariant-loop-place l = StillSends l.accepted.plan l.from l.upto l.place l.initial.self l.self
