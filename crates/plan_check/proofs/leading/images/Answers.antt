use Rattle.std.proofs.Common.{◌≤◌, ℕ, ◌∙◌, List, length, sym, subst}
use Rattle.std.proofs.lemmas.Bool.{false≢true}
use Rattle.plan_rules.specs.declared.target.Target.{Target}
use Rattle.plan_classes.proofs.Taking.{row_targets}
use Rattle.plan_check.proofs.Targets.{AreImages, images_pushed, images_kept, images_whole}
use Rattle.plan_check.proofs.leading.images.Goals.{then-reaches_by+in_ok-push, else-reaches_by}
use Rattle.plan_check.proofs.leading.images.Goals as goal

pub loop-place-preserved : goal.loop-place-preserved
loop-place-preserved c =
    elim c.if-reaches_by.branch [
      | then-reaches_by+in_ok-push w ↦
          images_pushed c.args.plan.now c.args.class.now c.loop-place.place c.loop-place.images c.if-reaches_by.images w.image_by.result
          (w.images-is ∙ w.in_ok-push.ensures.ok) c.loop-place.invariant
          (c.reaches_by.ensures.0 w.if-reaches_by.true) w.image_by.ensures.image
      | else-reaches_by w ↦
          subst (AreImages c.args.plan.now c.args.class.now _) (sym w.images-is)
          (images_kept c.args.plan.now c.args.class.now c.loop-place.place c.loop-place.images c.loop-place.invariant
          (λ reached. false≢true (sym w.if-reaches_by.false ∙ c.reaches_by.ensures.1 reached)))
    ]

pub returns-clause-every : goal.returns-clause-every
returns-clause-every c =
    images_whole c.args.plan.now c.args.class.now c.loop-place.place c.loop-place.images
    (subst (λ (ts : List Target). length ts ≤ c.loop-place.place)
    (sym (row_targets c.args.plan.now c.args.class.now c.args.row.now c.requires.row))
    (subst (λ (n : ℕ). n ≤ c.loop-place.place) c.target_count-place-end.ensures c.loop-place-test.false)) c.loop-place.invariant
