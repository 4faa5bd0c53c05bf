use Rattle.std.proofs.Common.{sym, ◌∙◌}
use Rattle.sccp_message.specs.Unitdata.{called_of}
use Rattle.sccp_scrc.proofs.Behind.{titled}
use Rattle.sccp_scrc.proofs.arriving.arrive_message.Goals as goal

pub returns-else-by_ssn : goal.returns-else-by_ssn
returns-else-by_ssn c =
    let here = c.args.here.now in
    titled c.at_title.result here.plan.now here.node here.marking.now here.origin c.args.message
    (called_of c.args.message) c.in-Some.by_ssn c.in-Some.ssn (sym c.routing.ensures
    ∙ c.in-Some.is) c.if-by_ssn.false c.at_title.ensures
