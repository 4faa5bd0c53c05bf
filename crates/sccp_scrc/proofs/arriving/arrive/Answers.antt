use Rattle.sccp_scrc.proofs.Meaning.{said, relayed, ended, local, names}
use Rattle.sccp_scrc.proofs.arriving.arrive.Goals as goal

pub returns-clause-relayed : goal.returns-clause-relayed
returns-clause-relayed c =
    relayed c.of_octets.result c.args.plan.now c.args.node c.args.marking.now c.args.octets.now
    (said c.of_octets.result c.args.plan.now c.args.node c.args.marking.now c.args.origin c.args.octets.now c.nodes-nodes.ensures.sound
    c.of_octets.ensures)

pub returns-clause-ended : goal.returns-clause-ended
returns-clause-ended c =
    ended c.of_octets.result c.args.plan.now c.args.node c.args.marking.now c.args.octets.now
    (said c.of_octets.result c.args.plan.now c.args.node c.args.marking.now c.args.origin c.args.octets.now c.nodes-nodes.ensures.sound
    c.of_octets.ensures)

pub returns-clause-local : goal.returns-clause-local
returns-clause-local c =
    local c.of_octets.result c.args.plan.now c.args.node c.args.marking.now c.args.octets.now
    (said c.of_octets.result c.args.plan.now c.args.node c.args.marking.now c.args.origin c.args.octets.now c.nodes-nodes.ensures.sound
    c.of_octets.ensures)

pub returns-clause-names : goal.returns-clause-names
returns-clause-names c =
    names c.of_octets.result c.args.plan.now c.args.node c.args.marking.now c.args.octets.now
    (said c.of_octets.result c.args.plan.now c.args.node c.args.marking.now c.args.origin c.args.octets.now c.nodes-nodes.ensures.sound
    c.of_octets.ensures)
