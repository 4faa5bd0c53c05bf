use Rattle.made_load.proofs.Counting.{add_up}
use Rattle.made_load.proofs.laws.load_counts_add_up.Goals as goal

pub returns : goal.returns
returns c = add_up
