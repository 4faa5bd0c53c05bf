use Rattle.plan_model.proofs.Alone.{safe_for_more}
use Rattle.plan_model.proofs.laws.safe_for_more.Goals as goal

pub returns : goal.returns
returns c = safe_for_more
