use Rattle.std.proofs.Common.{◌+◌, ◌≤◌, ◌∙◌, List, length, sym, subst}
use Rattle.plan_model.specs.declared.cover.Cover.{Cover}
use Rattle.plan_unused.specs.declared.survey.Gap.{Gap}
use Rattle.plan_unused.proofs.InOrder.{GapsSoFar, gaps_none, gaps_more, gaps_same, gaps_all}
use Rattle.plan_unused.proofs.listing.gaps.Goals as goal
use Rattle.plan_unused.proofs.listing.gaps.Goals.{in-Some+in_ok-push, in_default}

pub loop-cover-init : goal.loop-cover-init
loop-cover-init c = subst (λ (xs : List Gap). GapsSoFar c.args.plan.now 0 xs) (sym c.new-found.ensures) (gaps_none c.args.plan.now)

pub loop-cover-preserved : goal.loop-cover-preserved
loop-cover-preserved c = elim c.match-gap.branch [
  | in-Some+in_ok-push w ↦ gaps_more c.args.plan.now c.args.seen.now c.loop-cover.cover w.in-Some.spot c.loop-cover.found
      c.match-gap.found c.requires.seen (sym w.in-Some.ensures) (w.found-is ∙ w.in_ok-push.ensures.ok) c.loop-cover.invariant
  | in_default w ↦ subst (λ (xs : List Gap). GapsSoFar c.args.plan.now (c.loop-cover.cover + 1) xs) (sym w.found-is)
      (gaps_same c.args.plan.now c.args.seen.now c.loop-cover.cover c.loop-cover.found c.requires.whole (sym w.in_default.ensures)
      c.loop-cover.invariant)
]

pub returns : goal.returns
returns c =
    gaps_all c.args.plan.now c.loop-cover.cover c.loop-cover.found
    (subst (λ (xs : List Cover). length xs ≤ c.loop-cover.cover) (c.as_slice.ensures ∙ c.covers.ensures.value) c.loop-cover-test.false)
    c.loop-cover.invariant
