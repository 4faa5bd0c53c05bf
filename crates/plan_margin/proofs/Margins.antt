-- two margins of one cover
use Rattle.std.specs.Prelude.{ℕ, ◌<◌, ◌≤◌}
use Rattle.std.proofs.Common.{⊎_elim, arith}
use Rattle.std.proofs.lemmas.Bool.{cases_lt}
use Rattle.plan_model.specs.Network.{Network}
use Rattle.plan_margin.specs.declared.loss_kinds.LossKinds.{LossKinds}
use Rattle.plan_margin.specs.declared.stop.Stop.{Stop}
use Rattle.plan_margin.specs.Outages.{SurvivesBelow, SurvivesAll}
use Rattle.plan_margin.specs.Margins.{IsStop}

-- what survives fewer losses than a bound is stopped by that number at the least
pub not_fewer : (plan : Network) (kinds : LossKinds) (number count bound : ℕ) (a : Stop) → IsStop plan kinds number count a
    → SurvivesBelow plan kinds number bound
    → bound ≤ count
not_fewer plan kinds number count bound a stop below = ⊎_elim
    (λ (lt : count < bound). absurd (stop.stopped (below a.spot stop.marks stop.covered stop.outage (omega (arith, lt, stop.size)))))
    (λ (le : bound ≤ count). le)
    (cases_lt count bound)

pub stopped_at_all : (plan : Network) (kinds : LossKinds) (number count : ℕ) (a : Stop) → IsStop plan kinds number count a
    → SurvivesAll plan kinds number → ⊥
stopped_at_all plan kinds number count a stop all = stop.stopped (all a.spot stop.marks stop.covered stop.outage)
