use Rattle.std.specs.Prelude.{◌≡◌, Some, option_copied}
use Rattle.std.proofs.Common.{◌∙◌, ap, arith, refl, subst, sym}
use Rattle.plan_model.specs.Network.{Network, IsPlan}
use Rattle.plan_classes.specs.Classes.{class_row}
use Rattle.plan_mixed.specs.Mixed.{held}
use Rattle.plan_change.specs.Stops.{ComesFrom}
use Rattle.plan_change.proofs.Growing.{grows_more}
use Rattle.plan_change.proofs.Onward.{images_more, goes_well, held_node, held_decided}
use Rattle.plan_change.proofs.following.follow_plan.Goals as goal

pub class_row-requires : goal.class_row-requires
class_row-requires c = held_node _ _ c.held.result.now c.args.which c.args.class.now c.held.ensures c.requires.may

pub returns-in-Some-found-clause-grows : goal.returns-in-Some-found-clause-grows
returns-in-Some-found-clause-grows c = grows_more c.args.hop.now.stops c.loop-target.hop.stops c.follow_target.new.hop.stops
    (ComesFrom c.args.plans.now.may.now c.args.plans.now.old.now c.args.plans.now.new.now c.args.class.now c.args.place)
    c.loop-target.invariant.grows
    c.in_ok-found.ensures.grows

pub loop-target-preserved : goal.loop-target-preserved
loop-target-preserved c =
    record {
      met = c.in_ok-found.ensures.met;
      grows = grows_more c.args.hop.now.stops c.loop-target.hop.stops c.follow_target.new.hop.stops
          (ComesFrom c.args.plans.now.may.now c.args.plans.now.old.now c.args.plans.now.new.now c.args.class.now c.args.place)
          c.loop-target.invariant.grows
          c.in_ok-found.ensures.grows;
      images = images_more c.args.plans.now.old.now c.args.plans.now.new.now
          (held c.args.plans.now.old.now c.args.plans.now.new.now c.args.which) c.args.class.now c.loop-target.hop.stops
          c.follow_target.new.hop.stops
          (ComesFrom c.args.plans.now.may.now c.args.plans.now.old.now c.args.plans.now.new.now c.args.class.now c.args.place)
          c.loop-target.target
          c.in_ok-found.ensures.grows (c.in_ok-found.ensures.well c.in_default-found.is) c.loop-target.invariant.images;
    }

pub returns-clause-well : goal.returns-clause-well
returns-clause-well c = λ _.
    let plan = held c.args.plans.now.old.now c.args.plans.now.new.now c.args.which in
    goes_well c.args.plans.now.old.now c.args.plans.now.new.now plan c.args.class.now c.in-Some.row.now c.loop-target.hop.stops
    c.loop-target.target (subst IsPlan c.held.ensures c.class_row.ensures.sound) c.class_row.ensures.class
    (held_node _ _ plan c.args.which c.args.class.now refl c.requires.may)
    (held_decided _ _ plan c.args.which c.args.class.now refl c.requires.may)
    (subst (λ (p : Network). class_row p c.args.class.now ≡ Some c.in-Some.row.now) c.held.ensures
    (sym c.class_row.ensures.value ∙ ap option_copied c.in-Some.is))
    (omega (arith, c.target_count-target-end.ensures, c.loop-target-test.false)) c.loop-target.invariant.images
