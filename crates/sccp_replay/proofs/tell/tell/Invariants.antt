use Rattle.std.proofs.Common.{drop}
use Rattle.sccp_replay.proofs.TellSteps.{Telling}
use Rattle.sccp_replay.proofs.tell.tell.Given as goal

abbrev pub invariant-loop-one : goal.invariant-loop-one
invariant-loop-one l = Telling l.fn.at l.at l.text l.fn.settled (drop l.one-index l.settled) l.fn.served l.left
