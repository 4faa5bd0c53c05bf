use Rattle.plan_change.proofs.Holdings.{fitted_not_safe}
use Rattle.plan_change.proofs.laws.bad_routes_refuse_what_they_fit.Goals as goal

pub returns : goal.returns
returns c = fitted_not_safe
