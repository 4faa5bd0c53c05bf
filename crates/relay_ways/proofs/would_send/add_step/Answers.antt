use Rattle.std.proofs.Common.{◌≡◌, ◌++◌, [], List, ◌∙◌, subst, sym}
use Rattle.std.specs.Prelude.{OnOk}
use Rattle.relay_ways.specs.declared.candidate.Candidate.{Candidate}
use Rattle.relay_ways.proofs.StepLemmas.{returned_is}
use Rattle.relay_ways.proofs.would_send.add_step.Goals as goal

pub returns-in-Some : goal.returns-in-Some
returns-in-Some c m reads =
    subst (λ (xs : List Candidate). OnOk c.add_returned.result (c.add_returned.new.found ≡ c.args.found.now ++ xs))
    (returned_is c.args.at.now.plan.now c.args.at.now.node c.args.at.now.origin m c.args.address.now c.args.step.now c.in-Some.cause
    (sym c.returns.ensures ∙ c.in-Some.is))
    (c.add_returned.ensures m [] reads)
