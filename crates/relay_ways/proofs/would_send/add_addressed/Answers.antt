use Rattle.std.proofs.Common.{◌≡◌, ◌++◌, [], List, ◌∙◌, ap, subst, sym}
use Rattle.std.specs.Prelude.{OnOk}
use Rattle.sccp_scrc.specs.Arriving.{is_last_hop}
use Rattle.relay_ways.specs.declared.candidate.Candidate.{Candidate}
use Rattle.relay_ways.proofs.StepLemmas.{last_hop_returns}
use Rattle.relay_ways.proofs.would_send.add_addressed.Goals as goal

pub returns-then-is_last_hop : goal.returns-then-is_last_hop
returns-then-is_last_hop c =
    subst (λ (xs : List Candidate). OnOk c.add_returned.result (c.add_returned.new.found ≡ c.args.found.now ++ xs))
    (last_hop_returns c.args.at.now.plan.now c.args.at.now.node c.args.at.now.origin c.args.message.now c.args.address.now
    c.if-address.false (ap is_last_hop (sym c.hops.ensures) ∙ sym c.is_last_hop.ensures ∙ c.if-is_last_hop.true))
    (c.add_returned.ensures c.args.message.now [] c.requires)
