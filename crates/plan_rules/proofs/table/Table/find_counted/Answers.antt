use Rattle.std.proofs.Common.{ℕ, List, ◌≡◌, ◌<◌, ◌≤◌, ◌+◌, ◌*◌, ◌^◌, length, slice_get, subst}
use Rattle.std.specs.Prelude.{IfSome}
use Rattle.std.specs.Option.{option_and_then}
use Rattle.plan_rules.specs.Rule.{Rule}
use Rattle.plan_rules.specs.Rows.{row}
use Rattle.plan_rules.proofs.table.Table.find_counted.Goals as goal

pub returns-then-self-clause-row : goal.returns-then-self-clause-row
returns-then-self-clause-row g c =
    let same : c.ordered-ordered.result.rows.now ≡ c.args.self.now = c.ordered-ordered.ensures.rows in
    subst (λ (rows : List Rule). option_and_then (slice_get rows) c.unnumbered_place_of.result
    ≡ row rows c.args.selector c.args.ssn c.args.digits.now) same c.unnumbered_place_of.ensures.row

pub returns-then-self-clause-within : goal.returns-then-self-clause-within
returns-then-self-clause-within g c =
    let same : c.ordered-ordered.result.rows.now ≡ c.args.self.now = c.ordered-ordered.ensures.rows in
    subst (λ (rows : List Rule). IfSome c.unnumbered_place_of.result (λ i. i < length rows)) same c.unnumbered_place_of.ensures.within

pub returns-then-self-clause-cost : goal.returns-then-self-clause-cost
returns-then-self-clause-cost g c =
    let same : c.ordered-ordered.result.rows.now ≡ c.args.self.now = c.ordered-ordered.ensures.rows in
    subst (λ (rows : List Rule). (b : ℕ) → length rows < 2 ^ b
    → c.unnumbered_place_of.new.steps ≤ c.args.steps.now + (2 * b + 32)) same c.unnumbered_place_of.ensures.cost

pub returns-else-self-clause-row : goal.returns-else-self-clause-row
returns-else-self-clause-row g c =
    let same : c.ordered-ordered.result.rows.now ≡ c.args.self.now = c.ordered-ordered.ensures.rows in
    subst (λ (rows : List Rule). option_and_then (slice_get rows) c.place_of.result
    ≡ row rows c.args.selector c.args.ssn c.args.digits.now) same c.place_of.ensures.row

pub returns-else-self-clause-within : goal.returns-else-self-clause-within
returns-else-self-clause-within g c =
    let same : c.ordered-ordered.result.rows.now ≡ c.args.self.now = c.ordered-ordered.ensures.rows in
    subst (λ (rows : List Rule). IfSome c.place_of.result (λ i. i < length rows)) same c.place_of.ensures.within

pub returns-else-self-clause-cost : goal.returns-else-self-clause-cost
returns-else-self-clause-cost g c =
    let same : c.ordered-ordered.result.rows.now ≡ c.args.self.now = c.ordered-ordered.ensures.rows in
    subst (λ (rows : List Rule). (b : ℕ) → length rows < 2 ^ b
    → c.place_of.new.steps ≤ c.args.steps.now + (2 * b + 32)) same c.place_of.ensures.cost
