use Rattle.std.specs.Prelude.{◌≡◌, List, IfOk}
use Rattle.std.proofs.Common.{subst}
use Rattle.sccp_base.specs.declared.mark.Mark.{Mark}
use Rattle.sccp_scrc.specs.Returning.{service_for}
use Rattle.relay_ways.proofs.returning.unmarked_service.Goals as goal

pub returns : goal.returns
returns c =
    subst (λ (ms : List Mark). IfOk c.service_for-service.result (λ s. s ≡ service_for ms c.args.origin c.args.cause c.args.message))
    c.new-unmarked.ensures c.service_for-service.ensures
