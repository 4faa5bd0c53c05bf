use Rattle.plan_rules.proofs.Choosing.{unnumbered_chosen, unnumbered_not_chosen}
use Rattle.plan_rules.proofs.seeking.unnumbered_row_at.Goals as goal

pub returns-in-Some-clause-row : goal.returns-in-Some-clause-row
returns-in-Some-clause-row g c =
    let table = c.args.ordered.now.rows.now in
    let order = c.args.ordered.now.order.now in
    unnumbered_chosen table order c.args.selector c.args.ssn c.args.digits.now c.in-Some.plain c.requires.unnumbered c.requires.table
    c.requires.order c.in-Some.ensures.longest

pub returns-in-None-clause-row : goal.returns-in-None-clause-row
returns-in-None-clause-row g c =
    let table = c.args.ordered.now.rows.now in
    let order = c.args.ordered.now.order.now in
    unnumbered_not_chosen table order c.args.selector c.args.ssn c.args.digits.now c.requires.unnumbered c.requires.order
    c.in-None.ensures.longest
