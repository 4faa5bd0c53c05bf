use Rattle.std.proofs.Common.{◌≡◌, subst, arith}
use Rattle.plan_covers.specs.declared.cover_key.CoverKey.{CoverKey}
use Rattle.plan_change.specs.Near.{Begins, HasPlacesOf}
use Rattle.plan_change.proofs.NearKeys.{no_shorter, one_shorter, all_near}
use Rattle.plan_change.proofs.near.near_places.Goals as goal

pub loop-count-init : goal.loop-count-init
loop-count-init c = no_shorter c.args.cover.now c.args.order.now _

pub loop-count-preserved : goal.loop-count-preserved
loop-count-preserved c =
    one_shorter c.args.cover.now c.loop-count.count c.args.order.now c.loop-count.places.items c.add_with_key.new.places.items
    c.in_ok-add_with_key.ensures.stay
    (subst (λ (key : CoverKey). HasPlacesOf (λ k. k ≡ key) c.args.order.now c.add_with_key.new.places.items) c.of_front-key.ensures
    c.in_ok-add_with_key.ensures.all)
    c.loop-count.invariant

pub returns-clause-near : goal.returns-clause-near
returns-clause-near c =
    all_near c.args.cover.now c.args.order.now c.loop-count.places.items c.add_longer.new.places.items c.sort_unstable.new.self.items
    (λ n lt. c.loop-count.invariant n (omega (arith, lt, c.loop-count-test.false, c.len-count-end.ensures.value)))
    c.in_ok-add_longer.ensures.stay
    (subst (λ (key : CoverKey). HasPlacesOf (Begins key) c.args.order.now c.add_longer.new.places.items) c.of-key.ensures
    c.in_ok-add_longer.ensures.all)
    c.sort_unstable.ensures.permutation
