use Rattle.std.proofs.Common.{◌≡◌, ◌∙◌, ℕ, List, Option, ap, sym, subst, IfOk}
use Rattle.relay_ways.specs.Outcomes.{on_subsystem, outcome_conditions}
use Rattle.relay_ways.specs.declared.condition.Condition.{Condition}
use Rattle.relay_ways.proofs.TurnConditions.{user_outcomes}
use Rattle.relay_ways.proofs.outcomes.on_subsystem.Goals as goal

pub returns-then-is_user : goal.returns-then-is_user
returns-then-is_user c origin m =
    subst (λ (s : Option ℕ). IfOk c.at_user.result (λ found. found
    ≡ outcome_conditions (on_subsystem c.args.plan.now c.args.node origin m s))) (sym c.in-Some.is)
    (subst (λ (cs : List Condition). IfOk c.at_user.result (λ found. found ≡ cs))
    (sym (ap outcome_conditions
    (user_outcomes c.args.plan.now c.args.node origin m c.in-Some.ssn (sym c.is_user.ensures ∙ c.if-is_user.true))))
    (c.at_user.ensures origin m))
