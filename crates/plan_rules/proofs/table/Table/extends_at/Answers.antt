use Rattle.std.proofs.Common.{List, ◌≡◌, subst}
use Rattle.std.specs.Prelude.{IsTrue, ◌↔◌}
use Rattle.std.specs.List.{Any}
use Rattle.plan_rules.specs.Rule.{Rule}
use Rattle.plan_rules.specs.Rows.{Extends}
use Rattle.plan_rules.proofs.table.Table.extends_at.Goals as goal

pub returns : goal.returns
returns g c =
    let beginning = c.args.beginning.now in
    let same : c.ordered.result.rows.now ≡ c.args.self.now = c.ordered.ensures.rows in
    subst (λ (rows : List Rule). IsTrue c.any_extends.result
    ↔ Any (λ r. (r.ssn ≡ c.args.ssn) × Extends beginning.selector beginning.known.now beginning.most r) rows) same c.any_extends.ensures
