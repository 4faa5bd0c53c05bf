use Rattle.std.proofs.Common.{sym, ◌∙◌}
use Rattle.std.proofs.lemmas.Bool.{false≢true}
use Rattle.plan_model.specs.SameNodes.{without_rows}
use Rattle.plan_model.proofs.SameNodes.{one_by_one}
use Rattle.plan_model.proofs.same_nodes.are_same.Goals as goal

pub returns-then-not-are_alike : goal.returns-then-not-are_alike
returns-then-not-are_alike c = (
  λ t. absurd (false≢true t),
  λ same. absurd (false≢true (sym c.if-not-are_alike.true
      ∙ c.are_alike.ensures.1 (one_by_one without_rows c.args.old.now c.args.new.now c.loop-i.i c.index-old-i.result c.index-new-i.result
      c.loop-i-test.true c.index-old-i.is c.index-new-i.is same))),
)
