use Rattle.std.proofs.Common.{◌∙◌, sym, arith}
use Rattle.std.proofs.lemmas.Bool.{false≢true}
use Rattle.plan_covers.proofs.Groups.{place_within, none_more, none_left, none_above, one_found}
use Rattle.plan_covers.proofs.needless.first_with_key.Goals as goal

pub returns-then-is_below : goal.returns-then-is_below
returns-then-is_below c =
    none_above c.args.covers.now c.args.order.now c.args.key.now c.args.place c.count_below-below.result c.loop-next.next
    c.index-order-next.result c.requires.order c.count_below-below.ensures.parted c.loop-next-test.true c.index-order-next.is
    (sym c.is_below.ensures ∙ c.if-is_below.true) c.loop-next.invariant.none

pub is_needless_by-requires-clause-other : goal.is_needless_by-requires-clause-other
is_needless_by-requires-clause-other c =
    place_within c.args.covers.now c.args.order.now c.loop-next.next c.index-order-next.result c.requires.order.keys.each
    c.loop-next-test.true c.index-order-next.is

pub returns-then-is_needless_by : goal.returns-then-is_needless_by
returns-then-is_needless_by c =
    one_found c.args.covers.now c.args.order.now c.args.key.now c.args.place c.count_below-below.result c.loop-next.next
    c.index-order-next.result c.requires.order c.count_below-below.ensures.parted c.loop-next.invariant.from c.loop-next-test.true
    c.index-order-next.is (sym c.is_below.ensures ∙ c.if-is_below.false) (c.is_needless_by.ensures.0 c.if-is_needless_by.true)
    c.loop-next.invariant.none

pub loop-next-preserved : goal.loop-next-preserved
loop-next-preserved c =
    record {
      from = omega (arith, c.loop-next.invariant.from);
      none = none_more c.args.covers.now c.args.order.now c.args.place c.count_below-below.result c.loop-next.next
          c.index-order-next.result c.loop-next-test.true c.index-order-next.is
          (λ needless. false≢true (sym c.if-is_needless_by.false ∙ c.is_needless_by.ensures.1 needless)) c.loop-next.invariant.none;
    }

pub returns : goal.returns
returns c =
    none_left c.args.covers.now c.args.order.now c.args.key.now c.args.place c.count_below-below.result c.loop-next.next
    c.requires.order c.count_below-below.ensures.parted c.loop-next-test.false c.loop-next.invariant.none
