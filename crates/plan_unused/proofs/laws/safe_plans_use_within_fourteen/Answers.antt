use Rattle.plan_unused.proofs.Sending.{within_fourteen}
use Rattle.plan_unused.proofs.laws.safe_plans_use_within_fourteen.Goals as goal

pub returns : goal.returns
returns c = within_fourteen
