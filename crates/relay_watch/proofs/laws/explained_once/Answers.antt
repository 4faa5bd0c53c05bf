use Rattle.relay_watch.proofs.Once.{once}
use Rattle.relay_watch.proofs.laws.explained_once.Goals as goal

pub returns : goal.returns
returns c = once
