use Rattle.plan_model.proofs.Alone.{safe_by_covers}
use Rattle.plan_model.proofs.laws.safe_by_covers.Goals as goal

pub returns : goal.returns
returns c = safe_by_covers
