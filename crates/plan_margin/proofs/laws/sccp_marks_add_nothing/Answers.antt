use Rattle.plan_margin.proofs.WithSccp.{same_step}
use Rattle.plan_margin.proofs.laws.sccp_marks_add_nothing.Goals as goal

pub returns : goal.returns
returns c = same_step
