use Rattle.std.proofs.Common.{◌≡◌, ◌++◌, [], List, Option, ◌∙◌, subst, sym}
use Rattle.std.specs.Prelude.{OnOk}
use Rattle.std.specs.List.{flat_map}
use Rattle.std.proofs.lemmas.List.{append-nil}
use Rattle.plan_model.specs.declared.spot.Spot.{Spot}
use Rattle.sccp_scrc.specs.Returning.{returned}
use Rattle.relay_ways.specs.Candidates.{candidates_of, outcome_candidates}
use Rattle.relay_ways.specs.Outcomes.{titled}
use Rattle.relay_ways.specs.Turns.{turns_of}
use Rattle.relay_ways.specs.declared.candidate.Candidate.{Candidate}
use Rattle.relay_ways.proofs.StepLemmas.{titled_candidates}
use Rattle.relay_ways.proofs.would_send.add_titled.Goals as goal

pub returns-in-Some : goal.returns-in-Some
returns-in-Some c m reads =
    subst (λ (o : Option Spot). OnOk c.add_steps.result (c.add_steps.new.found ≡ c.args.found.now
    ++ flat_map (outcome_candidates c.args.at.now.plan.now c.args.at.now.node)
    (titled c.args.at.now.plan.now c.args.at.now.node c.args.at.now.origin m c.args.address.now o)))
    (sym c.in-Some.is ∙ c.spot.ensures.value)
    (subst (λ (xs : List Candidate). OnOk c.add_steps.result (c.add_steps.new.found ≡ c.args.found.now ++ xs))
    (titled_candidates c.args.at.now.plan.now c.args.at.now.node c.args.at.now.origin m c.args.address.now
    (turns_of c.args.at.now.plan.now c.in-Some.spot))
    (c.add_steps.ensures m reads))

pub returns-in-None : goal.returns-in-None
returns-in-None c m reads =
    subst (λ (o : Option Spot). OnOk c.add_returned.result (c.add_returned.new.found ≡ c.args.found.now
    ++ flat_map (outcome_candidates c.args.at.now.plan.now c.args.at.now.node)
    (titled c.args.at.now.plan.now c.args.at.now.node c.args.at.now.origin m c.args.address.now o)))
    (sym c.in-None.is ∙ c.spot.ensures.value)
    (subst (λ (xs : List Candidate). OnOk c.add_returned.result (c.add_returned.new.found ≡ c.args.found.now ++ xs))
    (sym (append-nil (candidates_of c.args.at.now.plan.now c.args.at.now.node (returned [] c.args.at.now.origin m 0 []))))
    (c.add_returned.ensures m [] reads))
