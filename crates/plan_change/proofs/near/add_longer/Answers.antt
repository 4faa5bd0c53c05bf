use Rattle.std.proofs.Common.{◌∙◌, ◌+◌, sym, subst, arith}
use Rattle.std.proofs.lemmas.Bool.{false≢true}
use Rattle.plan_change.specs.Near.{StayAmong}
use Rattle.plan_change.proofs.NearKeys.{HasUpTo, none_yet, one_more, stay_more, longer_all, longer_other}
use Rattle.plan_change.proofs.near.add_longer.Goals as goal

pub loop-next-init : goal.loop-next-init
loop-next-init c =
    record {
      from = omega (arith);
      stay = λ place h. h;
      met = none_yet c.args.order.now c.count_below-below.result c.args.places.now.items;
    }

pub loop-next-preserved : goal.loop-next-preserved
loop-next-preserved c =
    record {
      from = omega (arith, c.loop-next.invariant.from);
      stay = subst (StayAmong c.args.places.now.items) (sym c.in_ok-push.ensures.items)
          (stay_more c.args.places.now.items c.loop-next.places.items c.index-order-next.result.place c.loop-next.invariant.stay);
      met = subst (HasUpTo c.args.order.now c.count_below-below.result (c.loop-next.next + 1)) (sym c.in_ok-push.ensures.items)
          (one_more c.args.order.now c.count_below-below.result c.loop-next.next c.index-order-next.result c.loop-next.places.items
          c.loop-next-test.true c.index-order-next.is c.loop-next.invariant.met);
    }

pub returns-then-not-begins-clause-all : goal.returns-then-not-begins-clause-all
returns-then-not-begins-clause-all c =
    longer_other c.args.order.now c.args.key.now c.count_below-below.result c.loop-next.next c.index-order-next.result
    c.loop-next.places.items c.requires c.count_below-below.ensures.parted c.loop-next.invariant.from c.loop-next-test.true
    c.index-order-next.is (λ b. false≢true (sym c.if-not-begins.true ∙ c.begins.ensures.1 b)) c.loop-next.invariant.met

pub returns-clause-all : goal.returns-clause-all
returns-clause-all c =
    longer_all c.args.order.now c.args.key.now c.count_below-below.result c.loop-next.next c.loop-next.places.items
    c.count_below-below.ensures.parted c.loop-next-test.false c.loop-next.invariant.met
