use Rattle.plan_covers.proofs.Safety.{as_safe}
use Rattle.plan_covers.proofs.laws.without_needless.Goals as goal

pub returns : goal.returns
returns c = as_safe
