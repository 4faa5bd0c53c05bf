use Rattle.std.proofs.Common.{[], ◌≤◌, ◌∙◌, List, length, subst}
use Rattle.plan_model.specs.declared.cover.Cover.{Cover}
use Rattle.plan_unused.proofs.Growing.{grows_on, ranks_grown}
use Rattle.plan_unused.proofs.Settling.{no_ranks, may_start, starts_more, walk_first}
use Rattle.plan_unused.proofs.walking.first_hop.Goals as goal

pub enter-requires-clause-may : goal.enter-requires-clause-may
enter-requires-clause-may c = may_start c.args.plan.now c.loop-number.number _ c.covers.ensures.sound c.start.ensures.value

pub enter-requires-clause-ranks : goal.enter-requires-clause-ranks
enter-requires-clause-ranks c =
    ranks_grown c.args.plan.now 0 [] c.loop-number.met c.loop-number.invariant.grows (no_ranks c.args.plan.now 0)

pub loop-number-preserved : goal.loop-number-preserved
loop-number-preserved c = record {
  grows = grows_on c.args.plan.now 0 [] c.loop-number.met c.enter.new.met c.loop-number.invariant.grows c.in_ok-enter.ensures.grows;
  starts = starts_more c.args.plan.now c.loop-number.met c.enter.new.met c.loop-number.number c.start.result
      c.in_ok-enter.ensures.grows.kept c.in_ok-enter.ensures.ranked c.start.ensures.value c.loop-number.invariant.starts;
}

pub returns-clause-walk : goal.returns-clause-walk
returns-clause-walk c = λ seen sound.
    walk_first c.args.plan.now c.loop-number.met c.loop-number.number seen c.loop-number.invariant.grows
    (subst (λ (xs : List Cover). length xs ≤ c.loop-number.number) (c.as_slice.ensures ∙ c.covers.ensures.value) c.loop-number-test.false)
    c.loop-number.invariant.starts sound
