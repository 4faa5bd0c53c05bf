use Rattle.std.specs.Prelude.{List, [], ◌∷◌, ◌++◌}
use Rattle.std.proofs.Common.{sym, ◌∙◌, ap, arith}
use Rattle.std.proofs.lemmas.List.FromFn.{map-range_with_len_more}
use Rattle.plan_mixed.specs.declared.holding.Holding.{Holding}
use Rattle.plan_order.specs.Steps.{holding}
use Rattle.plan_order.proofs.trying.during.Goals as goal

pub loop-node-preserved : goal.loop-node-preserved
loop-node-preserved c =
    c.in_ok-push.ensures.ok ∙ ap (λ (h : Holding). c.loop-node.may ++ h ∷ []) c.holding.ensures
    ∙ ap (λ (may : List Holding). may ++ holding c.args.done.now c.args.step.now c.loop-node.node ∷ []) c.loop-node.invariant
    ∙ sym (map-range_with_len_more (holding c.args.done.now c.args.step.now) 0 c.loop-node.node c.loop-node.node (omega arith))
