use Rattle.std.proofs.Common.{◌≡◌, ◌++◌, List, ◌∙◌, subst, sym}
use Rattle.std.specs.Prelude.{OnOk}
use Rattle.std.proofs.lemmas.List.{append-nil}
use Rattle.std.proofs.Common.{ap}
use Rattle.relay_ways.specs.declared.candidate.Candidate.{Candidate}
use Rattle.relay_ways.proofs.StepLemmas.{onward_is, stays_here}
use Rattle.relay_ways.proofs.would_send.add_going_on.Goals as goal

pub returns-in-Some : goal.returns-in-Some
returns-in-Some c m reads =
    subst (λ (xs : List Candidate). OnOk c.add_onward.result (c.add_onward.new.found ≡ c.args.found.now ++ xs))
    (onward_is c.args.at.now.plan.now c.args.at.now.node c.args.at.now.origin m c.args.address.now c.args.step.now
    c.in-Some.going.0 c.in-Some.going.1 (sym c.onward.ensures ∙ c.in-Some.is))
    (c.add_onward.ensures m reads)

pub returns-in-None : goal.returns-in-None
returns-in-None c m reads =
    sym (append-nil c.args.found.now)
    ∙ ap (λ (xs : List Candidate). c.args.found.now ++ xs)
    (sym (stays_here c.args.at.now.plan.now c.args.at.now.node c.args.at.now.origin m c.args.address.now c.args.step.now
    (sym c.onward.ensures ∙ c.in-None.is) c.requires.goes_on))
