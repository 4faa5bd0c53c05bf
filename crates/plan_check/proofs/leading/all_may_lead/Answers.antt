use Rattle.std.proofs.Common.{subst}
use Rattle.std.proofs.lemmas.List.Elements.{All-more}
use Rattle.plan_check.specs.Checks.{MayLead}
use Rattle.plan_check.proofs.leading.all_may_lead.Goals as goal

pub loop-image-preserved : goal.loop-image-preserved
loop-image-preserved c =
    All-more (MayLead c.args.plan.now c.args.cover) c.args.images.now c.loop-image.image-index c.image-item.result c.loop-image-test.true
    c.loop-image.invariant
    (subst (MayLead c.args.plan.now c.args.cover) c.image-item.is (c.may_lead.ensures.0 c.if-not-may_lead.false))
