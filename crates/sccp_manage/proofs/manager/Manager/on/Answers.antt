use Rattle.sccp_manage.proofs.Left.{marked_so, node_stays}
use Rattle.sccp_manage.proofs.manager.Manager.on.Goals as goal

pub returns-clause-held : goal.returns-clause-held
returns-clause-held c = marked_so c.carry_out-sent.result c.args.self.now c.carry_out-sent.new.self c.args.event
    c.carry_out-sent.ensures.state

pub returns-clause-node : goal.returns-clause-node
returns-clause-node c = node_stays c.carry_out-sent.result c.args.self.now c.carry_out-sent.new.self c.args.event
    c.carry_out-sent.ensures.state c.carry_out-sent.ensures.err
