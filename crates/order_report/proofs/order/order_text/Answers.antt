use Rattle.std.proofs.Common.{sym, subst}
use Rattle.std.specs.List.{All}
use Rattle.order_report.specs.Orders.{HasTurns}
use Rattle.order_report.proofs.InOrder.{stuck_turns}
use Rattle.order_report.proofs.order.order_text.Goals as goal

pub put_stuck_relays-requires : goal.put_stuck_relays-requires
put_stuck_relays-requires c =
    subst (All (λ s. HasTurns s.why)) (sym c.as_slice-in-NoOrder-2.ensures)
    (stuck_turns c.args.old.now c.args.new.now c.args.order.now c.in-NoOrder.steps c.in-NoOrder.stuck c.in-NoOrder.is c.requires.lawful)
