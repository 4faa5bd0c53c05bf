use Rattle.std.proofs.Common.{List, [], ◌++◌, ap, subst, ◌∙◌}
use Rattle.sccp_conform.specs.Steps.{PutsItems}
use Rattle.sccp_conform.proofs.PartlyLemmas.{ended}
use Rattle.watch_items.specs.Captures.{ahead}
use Rattle.watch_items.specs.declared.item.Item.{Item}
use Rattle.sccp_conform.proofs.partly.Partly.end.Goals as goal

pub returns-in_ok-put-in-Ok : goal.returns-in_ok-put-in-Ok
returns-in_ok-put-in-Ok c = λ whole is.
    let puts : PutsItems c.args.plan.now c.finish.new.items c.args.self.now.watch c.put_items-put.new.watch c.args.self.now.text
    c.put_items-put.new.text =
    subst (λ (xs : List Item). PutsItems c.args.plan.now xs c.args.self.now.watch c.put_items-put.new.watch c.args.self.now.text
    c.put_items-put.new.text) c.as_slice.ensures c.in_ok-put-in-Ok.ensures in
    ended c.args.plan.now whole c.args.self.now.capture c.finish.new.items c.in-Ok.ending c.args.self.now.watch
    c.put_items-put.new.watch c.args.self.now.text c.put_items-put.new.text
    (c.in-Ok.ensures.items ∙ ap (λ (xs : List Item). xs ++ (ahead c.args.self.now.capture []).items) c.new-items.ensures)
    c.in-Ok.ensures.ending puts is
