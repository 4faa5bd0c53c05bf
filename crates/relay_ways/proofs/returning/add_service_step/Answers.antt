use Rattle.std.proofs.Common.{◌≡◌, ◌++◌, List, ◌∙◌, subst, sym}
use Rattle.std.specs.Prelude.{OnOk}
use Rattle.relay_ways.specs.declared.candidate.Candidate.{Candidate}
use Rattle.relay_ways.proofs.StepLemmas.{going_on_is}
use Rattle.relay_ways.proofs.returning.add_service_step.Goals as goal

pub returns-in-Some : goal.returns-in-Some
returns-in-Some c m reads =
    subst (λ (xs : List Candidate). OnOk c.add_written.result (c.add_written.new.found ≡ c.args.found.now ++ xs))
    (going_on_is c.args.service.now.plan.now c.args.service.now.node c.args.service.now.cause m c.args.address.now c.args.step.now
    c.in-Some.going.0 c.in-Some.going.1 (sym c.onward.ensures ∙ c.in-Some.is))
    (c.add_written.ensures m reads)
