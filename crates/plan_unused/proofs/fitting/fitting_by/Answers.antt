use Rattle.std.proofs.Common.{ℕ, ◌∙◌, sym, ap, slice_get}
use Rattle.plan_classes.proofs.Taking.{row_target, target_leads}
use Rattle.plan_unused.proofs.Fits.{fitting_node, not_past}
use Rattle.plan_unused.proofs.fitting.fitting_by.Goals as goal

pub fitting-requires : goal.fitting-requires
fitting-requires c =
    let at = row_target c.args.plan.now c.args.class.now c.args.row.now c.args.target c.in-Some.leading.now c.requires.row
    (c.in-Some.ensures ∙ ap (λ (n : ℕ). slice_get c.args.row.now.targets n) c.from.ensures) in
    target_leads c.args.plan.now _ c.args.class.now c.args.target _ c.class_node-node.ensures.sound c.class_node-node.ensures.value at

pub unreachable-requires : goal.unreachable-requires
unreachable-requires c = not_past c.args.row.now.targets c.args.target c.requires.place
    (sym (ap (λ (n : ℕ). slice_get c.args.row.now.targets n) c.from.ensures) ∙ sym c.in-None.ensures)

pub returns-clause-stays : goal.returns-clause-stays
returns-clause-stays c =
    let at = row_target c.args.plan.now c.args.class.now c.args.row.now c.args.target c.in-Some.leading.now c.requires.row
    (c.in-Some.ensures ∙ ap (λ (n : ℕ). slice_get c.args.row.now.targets n) c.from.ensures) in
    fitting_node c.args.plan.now c.class_node-node.result.now c.args.class.now c.in-Some.leading.now c.fitting.result
    (target_leads c.args.plan.now _ c.args.class.now c.args.target _ c.class_node-node.ensures.sound c.class_node-node.ensures.value at)
    c.fitting.ensures
