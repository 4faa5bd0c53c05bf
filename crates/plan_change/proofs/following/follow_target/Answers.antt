use Rattle.std.proofs.Common.{sym, subst}
use Rattle.plan_model.specs.Network.{Network}
use Rattle.plan_classes.specs.Classes.{HasImage}
use Rattle.plan_change.specs.Stops.{IsPutFor, ComesFrom}
use Rattle.plan_change.proofs.Growing.{grows_weaker}
use Rattle.plan_change.proofs.Onward.{held_node, held_decided, may_enter, put_comes, image_well}
use Rattle.plan_change.proofs.following.follow_target.Goals as goal

pub reaches_by-requires-clause-node : goal.reaches_by-requires-clause-node
reaches_by-requires-clause-node c =
    held_node _ _ c.held-plan.result.now c.args.origin.which c.args.class.now c.held-plan.ensures c.requires.may

pub image_by-requires-clause-node : goal.image_by-requires-clause-node
image_by-requires-clause-node c =
    held_node _ _ c.held-plan.result.now c.args.origin.which c.args.class.now c.held-plan.ensures c.requires.may

pub image_by-requires-clause-decided : goal.image_by-requires-clause-decided
image_by-requires-clause-decided c =
    held_decided _ _ c.held-plan.result.now c.args.origin.which c.args.class.now c.held-plan.ensures c.requires.may

pub enter-requires-clause-may : goal.enter-requires-clause-may
enter-requires-clause-may c =
    may_enter _ _ c.held-plan.result.now c.args.origin.which c.args.class.now _ c.args.origin.target c.held-plan.ensures c.requires.may
    (c.reaches_by.ensures.0 c.if-not-reaches_by.false) c.in-Next.ensures.image c.in-Next.ensures.stays.0

pub returns-in_ok-enter-in-Next-clause-grows : goal.returns-in_ok-enter-in-Next-clause-grows
returns-in_ok-enter-in-Next-clause-grows c =
    grows_weaker c.args.hop.now.stops c.enter.new.hop.stops
    (IsPutFor c.args.plans.now.old.now c.args.plans.now.new.now c.in-Next.next c.args.origin)
    (ComesFrom c.args.plans.now.may.now c.args.plans.now.old.now c.args.plans.now.new.now c.args.class.now c.args.origin.place)
    (λ stop put. put_comes _ _ _ c.held-plan.result.now c.args.class.now c.in-Next.next c.args.origin stop c.held-plan.ensures
    c.requires.may.decided (c.reaches_by.ensures.0 c.if-not-reaches_by.false) c.in-Next.ensures.image c.in-Next.ensures.stays.0
    c.in-Next.ensures.stays.1 c.requires.lets put)
    c.in_ok-enter-in-Next.ensures.grows

pub returns-in_ok-enter-in-Next-clause-well : goal.returns-in_ok-enter-in-Next-clause-well
returns-in_ok-enter-in-Next-clause-well c = λ _ image reached has.
    image_well c.args.plans.now.old.now c.args.plans.now.new.now c.held-plan.result.now c.args.class.now c.args.origin.target
    c.enter.new.hop.stops _ c.in-Next.ensures.image c.in_ok-enter-in-Next.ensures.among image
    (subst (λ (plan : Network). HasImage plan c.args.class.now c.args.origin.target image) (sym c.held-plan.ensures) has)

pub returns-in_ok-ended-in-Ends-clause-well : goal.returns-in_ok-ended-in-Ends-clause-well
returns-in_ok-ended-in-Ends-clause-well c = λ none image reached has.
    image_well c.args.plans.now.old.now c.args.plans.now.new.now c.held-plan.result.now c.args.class.now c.args.origin.target
    c.args.hop.now.stops _ c.in-Ends.ensures.image (c.in_ok-ended-in-Ends.ensures.well none) image
    (subst (λ (plan : Network). HasImage plan c.args.class.now c.args.origin.target image) (sym c.held-plan.ensures) has)
