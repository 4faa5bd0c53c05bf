use Rattle.std.proofs.Common.{sym, ◌∙◌, ap, None}
use Rattle.std.specs.Prelude.{is_some}
use Rattle.relay_ways.proofs.Constant.{handled_never}
use Rattle.relay_ways.proofs.handling.handle.Goals as goal

pub returns-in-None : goal.returns-in-None
returns-in-None c =
    handled_never c.args.at.now.plan.now c.args.at.now.node c.args.at.now.origin c.args.at.now.octets.now c.args.condition.now
    (record { cause = None; taken = None })
    (sym c.in_ok-marking.ensures.possible ∙ ap is_some c.in-None.is)
