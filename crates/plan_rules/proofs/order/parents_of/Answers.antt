use Rattle.std.proofs.Common.{◌+◌, [], ◌∷◌, subst, sym, ap, ◌∙◌, length}
use Rattle.std.proofs.lemmas.List.{length-append}
use Rattle.plan_rules.specs.Order.{AreParents}
use Rattle.plan_rules.proofs.Parents.{parents_more}
use Rattle.plan_rules.proofs.order.parents_of.Goals as goal

pub loop-place-preserved : goal.loop-place-preserved
loop-place-preserved g c =
    let all = c.in_ok-push.ensures.items in
    let i = c.loop-place.invariant in
    let parent = c.parent_of-parent.result in
    record {
      count = ap length all ∙ (length-append c.loop-place.parents.items (parent ∷ []) ∙ ap (λ n. n + 1) i.count);
      parents = subst (AreParents c.args.rows.now c.args.order.now) (sym all)
          (parents_more c.args.rows.now c.args.order.now c.loop-place.parents.items c.loop-place.place parent i.count i.parents
          c.parent_of-parent.ensures);
    }
