use Rattle.std.proofs.Common.{sym, ◌∙◌}
use Rattle.relay_watch.proofs.Reasoned.{other_data, not_so}
use Rattle.relay_watch.proofs.searching.is_other.Goals as goal

pub returns-clause-other : goal.returns-clause-other
returns-clause-other c other =
    other_data c.args.sent.now.plan.now c.args.sent.now.node c.args.sent.now.to c.args.sent.now.message.now c.args.arrival.now
    c.nodes-nodes.ensures.sound c.requires (sym c.has_data.ensures ∙ not_so c.has_data.result other)
