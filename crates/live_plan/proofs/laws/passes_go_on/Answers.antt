use Rattle.live_plan.proofs.Passed.{pass_extends, has_end}
use Rattle.live_plan.proofs.laws.passes_go_on.Goals as goal

pub returns-clause-extends : goal.returns-clause-extends
returns-clause-extends c plans m n le = pass_extends plans m n le

pub returns-clause-ends : goal.returns-clause-ends
returns-clause-ends c plans n plan h = has_end plans n plan h
