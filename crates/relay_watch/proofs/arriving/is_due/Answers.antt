use Rattle.std.specs.Prelude.{is_some, IfOk}
use Rattle.std.proofs.Common.{◌≡◌, List, Bool, subst}
use Rattle.sccp_base.specs.declared.mark.Mark.{Mark}
use Rattle.relay_ways.specs.Sends.{sends}
use Rattle.relay_watch.proofs.arriving.is_due.Goals as goal

pub returns : goal.returns
returns c =
    subst (λ (ms : List Mark). IfOk c.is_due_under-due.result (λ (d : Bool).
    d ≡ is_some (sends c.args.plan.now c.args.node ms c.args.event.now.origin c.args.event.now.octets)))
    c.new-unmarked.ensures c.is_due_under-due.ensures
