-- Worked rows: what counts as a loss, and a title that the loss of a subsystem stops and that of a point does not.
use Rattle.std.specs.Prelude.{◌≡◌, true, false, [], ◌∷◌, Some, None, refl}
use Rattle.sccp_base.specs.Selector.{Numbers}
use Rattle.sccp_base.specs.declared.mark.Mark.TheVariants.{PointCode, Sccp, Subsystem}
use Rattle.plan_rules.specs.Rule.{rule}
use Rattle.plan_rules.specs.declared.target.Target.TheVariants.{Final}
use Rattle.plan_model.specs.declared.node.Node.{Node}
use Rattle.plan_model.specs.declared.spot.Spot.{Spot}
use Rattle.plan_model.specs.declared.hop.Step.TheVariants.{Ended, Blocked}
use Rattle.plan_model.specs.Network.{Network, network}
use Rattle.plan_model.specs.Verdicts.{last}
use Rattle.plan_margin.specs.declared.loss_kinds.LossKinds.TheVariants.{Points, PointsAndSubsystems}
use Rattle.plan_margin.specs.Outages.{is_loss, route_in}

abbrev global : Numbers
global = record { kind = 4; translation = 0; plan = 1; nature = 4 }

-- a relay at point 10 that serves titles 47 itself, by its subsystem 8
abbrev own : Node
own = record {
  name = 97 ∷ [];
  pc = 10;
  subsystems = 8 ∷ [];
  concerned = [];
  table = rule global None (4 ∷ 7 ∷ []) (Final 10 (Some 8) ∷ []) ∷ [];
}

abbrev alone : Network
alone = network (own ∷ []) []

abbrev title : Spot
title = record { node = 0; selector = global; ssn = 6; digits = 4 ∷ 7 ∷ 1 ∷ [] }

its_subsystem : is_loss alone PointsAndSubsystems (Subsystem 10 8) ≡ true
its_subsystem = refl

if_points_count : is_loss alone Points (Subsystem 10 8) ≡ false
if_points_count = refl

another_subsystem : is_loss alone PointsAndSubsystems (Subsystem 10 6) ≡ false
another_subsystem = refl

at_no_relay : is_loss alone PointsAndSubsystems (Subsystem 20 8) ≡ false
at_no_relay = refl

each_point : is_loss alone Points (PointCode 20) ≡ true
each_point = refl

no_sccp : is_loss alone PointsAndSubsystems (Sccp 10) ≡ false
no_sccp = refl

arrives : last (route_in alone [] title) ≡ Some (Ended 10 8 0)
arrives = refl

by_its_point : last (route_in alone (PointCode 10 ∷ []) title) ≡ Some (Ended 10 8 0)
by_its_point = refl

by_its_subsystem : last (route_in alone (Subsystem 10 8 ∷ []) title) ≡ Some (Blocked 3 (Subsystem 10 8 ∷ []))
by_its_subsystem = refl
