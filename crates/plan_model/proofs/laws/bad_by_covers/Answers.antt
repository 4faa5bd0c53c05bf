use Rattle.plan_model.proofs.Alone.{bad_by_covers, tight_by_covers}
use Rattle.plan_model.proofs.laws.bad_by_covers.Goals as goal

pub returns-clause-bad : goal.returns-clause-bad
returns-clause-bad c = bad_by_covers

pub returns-clause-tight : goal.returns-clause-tight
returns-clause-tight c = tight_by_covers
