use Rattle.plan_margin.proofs.Blocking.{arrives_or_blocked, few_hops}
use Rattle.plan_margin.proofs.laws.stopped_titles_are_blocked.Goals as goal

pub returns-clause-ends : goal.returns-clause-ends
returns-clause-ends c = arrives_or_blocked

pub returns-clause-hops : goal.returns-clause-hops
returns-clause-hops c = few_hops
