use Rattle.plan_text.proofs.Limits.{keeps_limits}
use Rattle.plan_text.proofs.laws.plans_keep_their_limits.Goals as goal

pub returns : goal.returns
returns c = keeps_limits
