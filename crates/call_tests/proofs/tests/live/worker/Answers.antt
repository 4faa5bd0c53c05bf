use Rattle.std.proofs.Common.{◌≡◌, ◌<◌, length, map, slice_get, Some, sym, ap, ◌∙◌, subst, arith}
use Rattle.std.specs.Arc.{arc_value}
use Rattle.live_plan.specs.Entries.{entry_plan}
use Rattle.live_plan.specs.Plans.{HasPlan}
use Rattle.live_plan.proofs.Passed.{get_here, get_map}
use Rattle.call_tests.proofs.tests.live.worker.Goals as goal

pub over-requires : goal.over-requires
over-requires c =
    let xs = c.as_slice.result.now in
    let place = c.new-place.result in
    let kept = entry_plan c.in_ok-first.first in
    let long : length xs ≡ 3 = ap length c.as_slice.ensures ∙ c.in_ok-plans.ensures.count in
    let some : 0 < length xs = omega (arith, long) in
    let first = get_map arc_value xs 0 c.index-as_slice-0.result (get_here xs 0 c.index-as_slice-0.result some c.index-as_slice-0.is) in
    let all : xs ≡ place.plans = c.as_slice.ensures ∙ sym c.new-place.ensures.plans in
    let at : slice_get (map arc_value place.plans) 0 ≡ Some kept = subst (λ p. slice_get (map arc_value p) 0 ≡ Some kept) all
    (subst (λ k. slice_get (map arc_value xs) 0 ≡ Some k) (sym c.in_ok-first.ensures.plan) first) in
    rw (c.in_ok-first.ensures.number) (record {
      nodes_are = place.alike 0 kept at;
      last = λ l e. let same : map arc_value place.plans ≡ l = cc e in subst (λ x. (1 ≡ place.seen) × HasPlan x 1 kept) same
          (sym c.new-place.ensures.seen, (omega arith, at));
    })
