use Rattle.std.specs.Prelude.{ℕ, List, [], ◌∷◌, length, refl}
use Rattle.std.proofs.Common.{◌∙◌, sym, subst}
use Rattle.plan_change.specs.Changes.{IsLawfulUnder}
use Rattle.plan_order.specs.Steps.{during}
use Rattle.plan_order.proofs.Findings.{refusal_of}
use Rattle.plan_order.proofs.stopping.why_stuck.Goals as goal

pub returns-in-Refused : goal.returns-in-Refused
returns-in-Refused c =
    let old = c.args.plans.now.old.now in
    let new = c.args.plans.now.new.now in (
      refl,
      refusal_of (during (length old.nodes) c.args.done.now (c.args.node ∷ [])) old new c.in_ok-why.why
          (sym c.outcome_of.ensures ∙ c.in-Refused.is)
          (subst (λ (step : List ℕ). IsLawfulUnder (during (length old.nodes) c.args.done.now step) old new c.in_ok-why.why)
          (c.as_slice.ensures ∙ c.in_ok-nodes.ensures) c.in_ok-why.ensures),
    )
