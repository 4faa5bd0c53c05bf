use Rattle.std.proofs.Common.{◌≡◌, ◌<◌, length, true, false, arith, sym, ◌∙◌, ap, slice_index_or}
use Rattle.plan_rules.specs.Order.{titles, titles_in, up_to}
use Rattle.plan_rules.proofs.RowOrder.{at_place, parted_below, parted_above}
use Rattle.plan_rules.proofs.hinted.count_from.Goals as goal

pub loop-low-preserved-then-is_up_to : goal.loop-low-preserved-then-is_up_to
loop-low-preserved-then-is_up_to g c =
    let key = titles c.args.selector c.args.ssn c.args.digits.now in
    let middle = c.probe-middle.result in
    let i = c.loop-low.invariant in
    let p = c.probe-middle.ensures in
    let inside : middle < length c.args.ordered.now.order.now = omega (arith, p.below, i.within) in
    let stands = at_place c.args.ordered.now.rows.now
    (slice_index_or c.args.ordered.now.order.now middle 0) c.look.result.now c.look.ensures.row in
    let low : up_to (titles_in c.args.ordered.now.rows.now c.args.ordered.now.order.now middle) key ≡ true = ap (λ ts. up_to ts key) stands
    ∙ (sym c.is_up_to.ensures ∙ c.if-is_up_to.true) in
    record {
      halves = omega (arith, p.below);
      within = i.within;
      below = parted_below c.args.ordered.now.rows.now c.args.ordered.now.order.now key middle c.requires.ascending inside low;
      above = i.above;
    }

pub loop-low-preserved : goal.loop-low-preserved
loop-low-preserved g c =
    let key = titles c.args.selector c.args.ssn c.args.digits.now in
    let middle = c.probe-middle.result in
    let i = c.loop-low.invariant in
    let p = c.probe-middle.ensures in
    let inside : middle < length c.args.ordered.now.order.now = omega (arith, p.below, i.within) in
    let stands = at_place c.args.ordered.now.rows.now
    (slice_index_or c.args.ordered.now.order.now middle 0) c.look.result.now c.look.ensures.row in
    let high : up_to (titles_in c.args.ordered.now.rows.now c.args.ordered.now.order.now middle) key ≡ false =
    ap (λ ts. up_to ts key) stands ∙ (sym c.is_up_to.ensures ∙ c.if-is_up_to.false) in
    record {
      halves = p.from;
      within = omega (arith, inside);
      below = i.below;
      above = parted_above c.args.ordered.now.rows.now c.args.ordered.now.order.now key middle c.requires.ascending inside high;
    }
