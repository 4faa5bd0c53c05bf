use Rattle.std.specs.Prelude.{is_some}
use Rattle.std.proofs.Common.{ℕ, ◌∙◌, ap}
use Rattle.sccp_scrc.specs.Arriving.{arrival}
use Rattle.sccp_scrc.specs.declared.arrival.Arrival.{Arrival}
use Rattle.relay_ways.specs.Sends.{forwarded}
use Rattle.relay_watch.proofs.arriving.goes_on.Goals as goal

pub returns : goal.returns
returns c =
    c.is_forwarded-sent.ensures
    ∙ ap (λ (a : Arrival). is_some (forwarded a))
    (c.in_ok-again.ensures
    ∙ ap (λ (pc : ℕ). arrival c.args.plan.now c.args.node c.args.marking.now pc c.args.octets.now) c.point_of.ensures)
