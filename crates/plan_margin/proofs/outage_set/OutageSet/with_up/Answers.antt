use Rattle.std.proofs.Common.{refl, rules}
use Rattle.plan_margin.proofs.outage_set.OutageSet.with_up.Goals as goal

pub returns-in-Ok : goal.returns-in-Ok
returns-in-Ok c = record { kinds = refl; most = refl; lost = search rules; up = search rules }
