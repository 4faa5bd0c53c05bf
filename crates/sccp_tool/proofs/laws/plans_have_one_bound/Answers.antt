use Rattle.sccp_tool.proofs.LinesTold.{one_bound}
use Rattle.sccp_tool.proofs.laws.plans_have_one_bound.Goals as goal

pub returns : goal.returns
returns c = one_bound
