use Rattle.std.specs.Prelude.{map}
use Rattle.relay_net.specs.Journeys.{held_at}
use Rattle.relay_net.proofs.Passages.{arrived}
use Rattle.relay_net.proofs.riding.stop.Goals as goal

pub returns-in-Some-clause-value : goal.returns-in-Some-clause-value
returns-in-Some-clause-value g c =
    arrived c.arrive_stepped.result c.args.plan.now c.args.rest.node c.marking_at-marking.result.now
    (held_at (map g.S.HoldsMarking.held c.args.states.now) c.args.rest.node) c.args.rest.origin c.args.message c.requires.again
    c.marking_at-marking.ensures c.arrive_stepped.ensures

pub returns-in-None-clause-value : goal.returns-in-None-clause-value
returns-in-None-clause-value g c =
    arrived c.arrive_message.result c.args.plan.now c.args.rest.node c.marking_at-marking.result.now
    (held_at (map g.S.HoldsMarking.held c.args.states.now) c.args.rest.node) c.args.rest.origin c.args.message c.requires.again
    c.marking_at-marking.ensures c.arrive_message.ensures
