use Rattle.sccp_replay.proofs.Fences.{as_by_one}
use Rattle.sccp_replay.proofs.laws.fenced_replays_are_those_of_one_worker.Goals as goal

pub returns : goal.returns
returns c = as_by_one
