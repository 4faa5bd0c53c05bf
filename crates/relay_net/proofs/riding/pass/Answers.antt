use Rattle.std.specs.Prelude.{map}
use Rattle.relay_net.specs.Journeys.{held_at}
use Rattle.relay_net.proofs.Passages.{passed_at, passed_again}
use Rattle.relay_net.proofs.riding.pass.Goals as goal

pub returns-clause-value : goal.returns-clause-value
returns-clause-value g c =
    passed_at c.pass_on.result c.args.plan.now c.args.node c.marking_at-marking.result.now
    (held_at (map g.S.HoldsMarking.held c.args.states.now) c.args.node) c.args.message.now c.pass_on.new.message
    c.marking_at-marking.ensures c.pass_on.ensures

pub returns-clause-again : goal.returns-clause-again
returns-clause-again g c =
    passed_again c.pass_on.result c.args.plan.now c.args.node c.marking_at-marking.result.now c.args.message.now c.pass_on.new.message
    c.nodes-nodes.ensures.sound c.requires.again c.pass_on.ensures
