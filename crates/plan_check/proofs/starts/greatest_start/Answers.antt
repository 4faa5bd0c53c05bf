use Rattle.std.proofs.Common.{◌≤◌, ◌∙◌, List, length, sym, subst}
use Rattle.plan_model.specs.declared.cover.Cover.{Cover}
use Rattle.plan_check.specs.Ranking.{rank_in}
use Rattle.plan_check.proofs.Greatest.{ranked_none, ranked_next, greatest_of, lacks_start}
use Rattle.plan_check.proofs.starts.greatest_start.Goals as goal

pub loop-number-init : goal.loop-number-init
loop-number-init c = ranked_none c.args.plan.now (rank_in c.args.ranks.now)

pub loop-number-preserved : goal.loop-number-preserved
loop-number-preserved c =
    ranked_next c.args.plan.now
    (rank_in c.args.ranks.now) c.loop-number.number c.loop-number.greatest c.in-Some.rank c.max-greatest.result c.start.result
    c.max-greatest.ensures c.loop-number.invariant c.start.ensures.value (sym c.get.ensures ∙ c.in-Some.is)

pub returns-in-None-clause-lacks : goal.returns-in-None-clause-lacks
returns-in-None-clause-lacks c =
    lacks_start c.args.plan.now (rank_in c.args.ranks.now) c.loop-number.number c.loop-number.greatest c.start.result
    c.loop-number.invariant c.start.ensures.value (sym c.get.ensures ∙ c.in-None.is)

pub returns-clause-greatest : goal.returns-clause-greatest
returns-clause-greatest c =
    greatest_of c.args.plan.now (rank_in c.args.ranks.now) c.loop-number.number c.loop-number.greatest c.covers.ensures.sound
    (subst (λ (xs : List Cover). length xs ≤ c.loop-number.number) (c.as_slice.ensures ∙ c.covers.ensures.value) c.loop-number-test.false)
    c.loop-number.invariant
