use Rattle.std.specs.Prelude.{map}
use Rattle.std.proofs.Common.{◌++◌, sym, ap, ◌∙◌, arith}
use Rattle.sccp_message.specs.Written.{message_octets}
use Rattle.relay_net.specs.Journeys.{Trip}
use Rattle.relay_net.proofs.Passages.{last_here}
use Rattle.relay_net.proofs.riding.end_ride.Goals as goal

pub returns-in-Ok-stop-clause-last : goal.returns-in-Ok-stop-clause-last
returns-in-Ok-stop-clause-last g c =
    let e = last_here c.args.plan.now (map g.S.HoldsMarking.held c.args.states.now) c.args.rest.left c.args.rest.node c.args.rest.origin
    (message_octets c.args.message) c.in-Ok-stop.last
    (omega (arith, c.if-rest-eq0.false)) c.in-Ok-stop.ensures.value c.in-Ok-stop.ensures.unrelayed in
    sym (ap (λ (x : Trip). x.last) e)

pub returns-in-Ok-stop-clause-path : goal.returns-in-Ok-stop-clause-path
returns-in-Ok-stop-clause-path g c =
    let e = last_here c.args.plan.now (map g.S.HoldsMarking.held c.args.states.now) c.args.rest.left c.args.rest.node c.args.rest.origin
    (message_octets c.args.message) c.in-Ok-stop.last
    (omega (arith, c.if-rest-eq0.false)) c.in-Ok-stop.ensures.value c.in-Ok-stop.ensures.unrelayed in
    c.in-Ok.ensures.ok ∙ ap (λ (x : Trip). c.args.path.now ++ x.path) (sym e)
