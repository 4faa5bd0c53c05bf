use Rattle.plan_margin.proofs.Subsystems.{survives_points, all_survives_points, point_marks}
use Rattle.plan_margin.proofs.laws.subsystems_add_losses.Goals as goal

pub returns-clause-below : goal.returns-clause-below
returns-clause-below c = survives_points

pub returns-clause-any : goal.returns-clause-any
returns-clause-any c = all_survives_points

pub returns-clause-points : goal.returns-clause-points
returns-clause-points c = λ plan number marks outage. point_marks plan marks outage.losses
