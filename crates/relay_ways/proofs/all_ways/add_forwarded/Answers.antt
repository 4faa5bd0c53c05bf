use Rattle.std.proofs.Common.{Some, None, List, [], refl, subst}
use Rattle.std.specs.Prelude.{OnOk}
use Rattle.relay_ways.specs.Ways.{AddsWays, forwarded_way, possible}
use Rattle.relay_ways.specs.declared.way.Way.{Way}
use Rattle.relay_ways.proofs.Adding.{adds_nothing, adds_same, possible_of, forwarded_as}
use Rattle.relay_ways.proofs.all_ways.add_forwarded.Goals as goal

pub add_way-requires : goal.add_way-requires
add_way-requires c =
    possible_of c.args.plan.now c.args.node c.args.octets.now c.args.combined c.in_ok-sending.field-0 c.in-Some.sending
    c.in_ok-sending.ensures c.in-Some.is

pub returns-in-Some : goal.returns-in-Some
returns-in-Some c k o joined becomes =
    subst (λ (xs : List Way). OnOk c.add_way.result (AddsWays c.args.found.now c.add_way.new.found xs))
    (forwarded_as c.args.plan.now c.args.node c.args.octets.now k o.condition c.args.combined o
    c.in_ok-sending.field-0 (Some c.in-Some.sending) refl becomes joined c.in_ok-sending.ensures c.in-Some.is)
    c.add_way.ensures

pub returns-in-None : goal.returns-in-None
returns-in-None c k o joined becomes =
    adds_same c.args.found.now c.args.found.now [] (possible (forwarded_way k o))
    (forwarded_as c.args.plan.now c.args.node c.args.octets.now k o.condition c.args.combined o
    c.in_ok-sending.field-0 None refl becomes joined c.in_ok-sending.ensures c.in-None.is)
    (adds_nothing c.args.found.now)
