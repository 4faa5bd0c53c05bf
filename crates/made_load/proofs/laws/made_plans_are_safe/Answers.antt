use Rattle.made_load.proofs.Safe.{safe}
use Rattle.made_load.proofs.laws.made_plans_are_safe.Goals as goal

pub returns : goal.returns
returns c = safe
