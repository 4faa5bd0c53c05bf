use Rattle.std.proofs.Common.{◌≡◌, ◌<◌, ◌==◌, false, sym, ◌∙◌, ap, length, get_or, take, arith}
use Rattle.std.specs.List.{list_any}
use Rattle.plan_rules.proofs.Counting.{at_any}
use Rattle.plan_rules.proofs.FirstOf.{first_of_next}
use Rattle.plan_model.proofs.Repeats.{distinct_more, distinct_whole}
use Rattle.plan_text.specs.Drafts.{repeat_at}
use Rattle.plan_text.proofs.Marked.{marked, not_met}
use Rattle.plan_text.proofs.numbers.points_repeat.Goals as goal

pub loop-i-preserved : goal.loop-i-preserved
loop-i-preserved c =
    let xs = c.args.points.now in
    let i = c.loop-i.i in
    let x = c.from-place.result in
    let same : x ≡ c.index-points-i.result = c.from-place.ensures ∙ c.value.ensures.same in
    let found : x ≡ get_or xs i x = same ∙ c.index-points-i.is ∙ ap (λ d. get_or xs i d) (sym same) in
    let at : get_or xs i 0 ≡ x = at_any xs i x c.loop-i-test.true found 0 in
    let inside : x < length c.loop-i.seen = omega arith in
    let unmet : list_any (λ y. y == x) (take i xs) ≡ false = sym (c.loop-i.invariant.marks x inside) ∙ c.if-seen-place.false in
    record {
      ahead = first_of_next (repeat_at xs) xs i x _ c.loop-i-test.true (sym found) (not_met xs i x unmet) c.loop-i.invariant.ahead;
      marks = marked c.loop-i.seen xs i x c.loop-i-test.true at inside c.loop-i.invariant.marks;
      distinct = distinct_more xs i x c.loop-i-test.true found unmet c.loop-i.invariant.distinct;
    }

pub returns-clause-distinct : goal.returns-clause-distinct
returns-clause-distinct c = λ none. distinct_whole c.args.points.now c.loop-i.i c.loop-i-test.false c.loop-i.invariant.distinct
