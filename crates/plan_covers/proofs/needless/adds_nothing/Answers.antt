use Rattle.plan_covers.proofs.Adding.{adds_told}
use Rattle.plan_covers.proofs.needless.adds_nothing.Goals as goal

pub returns : goal.returns
returns c =
    adds_told c.args.a.now c.args.b.now c.allows_all.result c.as_slice.result.now (c.is_within.ensures.0 c.if-not-is_within.false)
    c.as_slice.ensures c.allows_all.ensures
