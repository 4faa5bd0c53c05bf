use Rattle.relay_watch.proofs.Told.{explained}
use Rattle.relay_watch.proofs.laws.explained_truly.Goals as goal

pub returns : goal.returns
returns c = explained
