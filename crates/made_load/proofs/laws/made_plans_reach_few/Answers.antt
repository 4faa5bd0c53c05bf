use Rattle.made_load.proofs.Narrow.{narrow}
use Rattle.made_load.proofs.laws.made_plans_reach_few.Goals as goal

pub returns : goal.returns
returns c = narrow
