use Rattle.std.proofs.Common.{◌≡◌, ◌++◌, [], Option, ◌∙◌, ap, subst}
use Rattle.std.specs.Prelude.{OnOk}
use Rattle.sccp_scrc.specs.Returning.{service_for}
use Rattle.sccp_scrc.specs.declared.arrival.Arrival.TheVariants.{Returned}
use Rattle.sccp_scrc.specs.declared.service.Service.{Service}
use Rattle.relay_ways.specs.Candidates.{candidates_of}
use Rattle.relay_ways.proofs.returning.add_returned.Goals as goal

pub returns : goal.returns
returns c m marks reads =
    subst (λ (s : Option Service). OnOk c.add_served_if_any.result (c.add_served_if_any.new.found ≡ c.args.found.now
    ++ candidates_of c.args.at.now.plan.now c.args.at.now.node (Returned c.args.cause marks s)))
    (c.in_ok-service.ensures ∙ ap (service_for [] c.args.at.now.origin c.args.cause) (c.in_ok-message.ensures m reads))
    (c.add_served_if_any.ensures marks)
