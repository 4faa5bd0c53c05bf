use Rattle.std.proofs.Common.{List, [], subst}
use Rattle.sccp_conform.specs.Steps.{PutsItems}
use Rattle.sccp_conform.proofs.PartlyLemmas.{fed}
use Rattle.watch_items.specs.Steps.{Feeds}
use Rattle.watch_items.specs.declared.item.Item.{Item}
use Rattle.sccp_conform.proofs.partly.Partly.feed.Goals as goal

pub returns-in_ok-put-in-Ok-clause-goes_on : goal.returns-in_ok-put-in-Ok-clause-goes_on
returns-in_ok-put-in-Ok-clause-goes_on c = λ whole is.
    let feeds : Feeds c.args.self.now.capture c.args.piece.now [] c.feed.new.items c.feed.new.self =
    subst (λ (xs : List Item). Feeds c.args.self.now.capture c.args.piece.now xs c.feed.new.items c.feed.new.self) c.new-items.ensures
    c.in-Ok.ensures.feeds in
    let puts : PutsItems c.args.plan.now c.feed.new.items c.args.self.now.watch c.put_items-put.new.watch c.args.self.now.text
    c.put_items-put.new.text =
    subst (λ (xs : List Item). PutsItems c.args.plan.now xs c.args.self.now.watch c.put_items-put.new.watch c.args.self.now.text
    c.put_items-put.new.text) c.as_slice.ensures c.in_ok-put-in-Ok.ensures in
    fed c.args.plan.now whole c.args.piece.now c.args.self.now.capture c.feed.new.self c.feed.new.items c.args.self.now.watch
    c.put_items-put.new.watch c.args.self.now.text c.put_items-put.new.text feeds puts is
