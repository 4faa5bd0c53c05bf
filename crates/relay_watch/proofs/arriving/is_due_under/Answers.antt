use Rattle.std.specs.Prelude.{is_some, IfOk}
use Rattle.std.proofs.Common.{◌≡◌, List, ℕ, Bool, ◌∙◌, ap, subst}
use Rattle.sccp_scrc.specs.Arriving.{arrival}
use Rattle.sccp_scrc.specs.declared.arrival.Arrival.{Arrival}
use Rattle.relay_ways.specs.Sends.{sent_of}
use Rattle.relay_watch.proofs.arriving.is_due_under.Goals as goal

pub returns : goal.returns
returns c =
    let plan = c.args.plan.now in
    subst (λ (a : Arrival). IfOk c.is_sent-sent.result (λ (s : Bool). s ≡ is_some (sent_of plan c.args.node c.args.marking.now a)))
    (c.in_ok-arrival.ensures
    ∙ ap (λ (b : List ℕ). arrival plan c.args.node c.args.marking.now c.args.event.now.origin b) c.as_slice-octets.ensures)
    c.is_sent-sent.ensures
