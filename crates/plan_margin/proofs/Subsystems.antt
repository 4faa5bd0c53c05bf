-- losses of points, and losses of subsystems as well
use Rattle.std.specs.Prelude.{ℕ, List, get_or, refl}
use Rattle.std.specs.List.{All}
use Rattle.std.proofs.lemmas.Bool.{false≢true}
use Rattle.sccp_base.specs.declared.mark.Mark.{Mark}
use Rattle.sccp_base.specs.declared.mark.Mark.TheVariants.{PointCode, Sccp, Subsystem}
use Rattle.plan_model.specs.Network.{Network}
use Rattle.plan_margin.specs.declared.loss_kinds.LossKinds.TheVariants.{Points, PointsAndSubsystems}
use Rattle.plan_margin.specs.Outages.{IsLoss, IsPointMark, Outage, SurvivesBelow, SurvivesAll}

point_mark : (plan : Network) (m : Mark) → IsLoss plan Points m → IsPointMark m
point_mark plan (PointCode p) h = tt
point_mark plan (Sccp p) h = false≢true h
point_mark plan (Subsystem p s) h = false≢true h

-- outages of points hold marks of points
pub point_marks : (plan : Network) (marks : List Mark) → All (IsLoss plan Points) marks → All IsPointMark marks
point_marks plan marks all = λ k d lt. point_mark plan (get_or marks k d) (all k d lt)

of_both : (plan : Network) (m : Mark) → IsLoss plan Points m → IsLoss plan PointsAndSubsystems m
of_both plan (PointCode p) h = refl
of_both plan (Sccp p) h = absurd (false≢true h)
of_both plan (Subsystem p s) h = absurd (false≢true h)

-- and are outages if subsystems count as well
outage_of_both : (plan : Network) (number : ℕ) (marks : List Mark) → Outage plan Points number marks
    → Outage plan PointsAndSubsystems number marks
outage_of_both plan number marks outage = record {
  losses = λ k d lt. of_both plan (get_or marks k d) (outage.losses k d lt);
  once = outage.once;
  spared = outage.spared;
}

pub survives_points : (plan : Network) (number count : ℕ) → SurvivesBelow plan PointsAndSubsystems number count
    → SurvivesBelow plan Points number count
survives_points plan number count below =
    λ spot marks has outage few. below spot marks has (outage_of_both plan number marks outage) few

pub all_survives_points : (plan : Network) (number : ℕ) → SurvivesAll plan PointsAndSubsystems number → SurvivesAll plan Points number
all_survives_points plan number all = λ spot marks has outage. all spot marks has (outage_of_both plan number marks outage)
