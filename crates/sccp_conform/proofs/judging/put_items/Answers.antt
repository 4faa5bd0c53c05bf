use Rattle.sccp_conform.proofs.JudgingLemmas.{turned, done}
use Rattle.sccp_conform.proofs.judging.put_items.Goals as goal

pub loop-item-preserved : goal.loop-item-preserved
loop-item-preserved c =
    turned c.args.plan.now c.args.items.now c.args.watch.now c.args.text.now c.loop-item.item-index c.item-item.result c.loop-item.watch
    c.put_item.new.watch c.loop-item.text c.put_item.new.text c.loop-item-test.true c.item-item.is c.loop-item.invariant
    c.in_ok-put_item.ensures

pub returns : goal.returns
returns c =
    done c.args.plan.now c.args.items.now c.args.watch.now c.args.text.now c.loop-item.item-index c.loop-item.watch c.loop-item.text
    c.loop-item-test.false c.loop-item.invariant
