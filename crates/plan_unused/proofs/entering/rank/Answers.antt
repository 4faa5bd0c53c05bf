use Rattle.std.proofs.Common.{ℕ, ◌≤◌, length, ap, arith}
use Rattle.plan_model.specs.declared.limits.Limits.{Limits}
use Rattle.plan_check.proofs.Listed.{listed_once}
use Rattle.plan_unused.specs.Meets.{Meets}
use Rattle.plan_unused.proofs.entering.rank.Goals as goal

pub returns-clause-wide : goal.returns-clause-wide
returns-clause-wide c = λ is.
    let full = c.put.ensures.wide is in
    let many : c.args.plan.now.limits.classes ≤ length c.args.met.now =
    omega (arith, full.0, ap (λ (l : Limits). l.classes) c.limits.ensures) in
    listed_once (λ t. (depth : ℕ) × Meets c.args.plan.now depth t) c.args.met.now c.args.plan.now.limits.classes
    (λ t r e. (r, (c.requires.ranks t r e).1)) full.1 many
