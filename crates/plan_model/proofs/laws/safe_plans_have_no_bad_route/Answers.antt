use Rattle.plan_model.proofs.SafeWays.{safe_not_bad}
use Rattle.plan_model.proofs.laws.safe_plans_have_no_bad_route.Goals as goal

pub returns : goal.returns
returns c = safe_not_bad
