use Rattle.plan_order.proofs.Findings.{same_from, same_back}
use Rattle.plan_order.proofs.sets.are_same.Goals as goal

pub returns-then-are_in : goal.returns-then-are_in
returns-then-are_in c = (
  λ t. same_from c.args.a.now c.args.b.now (c.are_in.ensures.0 c.if-are_in.true) (c.are_in-then-are_in.ensures.0 t),
  λ same. c.are_in-then-are_in.ensures.1 (same_back c.args.a.now c.args.b.now same),
)
