use Rattle.std.proofs.Common.{◌≡◌, ◌++◌, List, ◌∙◌, subst}
use Rattle.std.specs.Prelude.{OnOk}
use Rattle.plan_model.specs.declared.hop.Step.{Step}
use Rattle.relay_ways.proofs.StepLemmas.{closed_row_steps}
use Rattle.relay_ways.proofs.turn_steps.add_all_closed.Goals as goal

pub returns-in-Some-clause-value : goal.returns-in-Some-clause-value
returns-in-Some-clause-value c =
    subst (λ (xs : List Step). OnOk c.add_closed.result (c.add_closed.new.found ≡ c.args.found.now ++ xs))
    (closed_row_steps c.args.node.now c.args.ssn c.args.targets.now _ c.in-Some.last.now c.as_slice.result.now c.in-Some.ensures.cases.0
    (c.as_slice.ensures ∙ c.of-marks.ensures))
    c.add_closed.ensures.value
