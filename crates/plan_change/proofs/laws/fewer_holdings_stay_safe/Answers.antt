use Rattle.plan_change.proofs.Holdings.{safe_for_fewer}
use Rattle.plan_change.proofs.laws.fewer_holdings_stay_safe.Goals as goal

pub returns : goal.returns
returns c = safe_for_fewer
