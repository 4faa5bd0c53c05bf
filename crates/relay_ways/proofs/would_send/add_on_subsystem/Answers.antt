use Rattle.std.proofs.Common.{◌≡◌, ◌++◌, [], List, ◌∙◌, ap, subst, sym}
use Rattle.std.specs.Prelude.{OnOk}
use Rattle.std.proofs.lemmas.List.{append-nil}
use Rattle.relay_ways.specs.Candidates.{returned_by}
use Rattle.relay_ways.specs.declared.candidate.Candidate.{Candidate}
use Rattle.relay_ways.proofs.StepLemmas.{subsystem_returns}
use Rattle.relay_ways.proofs.would_send.add_on_subsystem.Goals as goal

pub returns-in-Some : goal.returns-in-Some
returns-in-Some c m reads =
    subst (λ (xs : List Candidate). OnOk c.add_returned.result (c.add_returned.new.found ≡ c.args.found.now ++ xs))
    (sym (ap (returned_by c.args.at.now.plan.now c.args.at.now.node c.args.at.now.origin m) (sym c.cause_at.ensures ∙ c.in-Some.is))
    ∙ subsystem_returns c.args.at.now.plan.now c.args.at.now.node c.args.at.now.origin m c.args.ssn)
    (c.add_returned.ensures m [] reads)

pub returns-in-None : goal.returns-in-None
returns-in-None c m reads =
    sym (append-nil c.args.found.now)
    ∙ ap (λ (xs : List Candidate). c.args.found.now ++ xs)
    (sym (ap (returned_by c.args.at.now.plan.now c.args.at.now.node c.args.at.now.origin m) (sym c.cause_at.ensures ∙ c.in-None.is))
    ∙ subsystem_returns c.args.at.now.plan.now c.args.at.now.node c.args.at.now.origin m c.args.ssn)
