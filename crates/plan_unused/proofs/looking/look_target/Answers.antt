use Rattle.std.proofs.Common.{ℕ, sym, subst}
use Rattle.plan_unused.specs.Uses.{UsesTarget}
use Rattle.plan_unused.proofs.Noting.{uses_target}
use Rattle.plan_unused.proofs.looking.look_target.Goals as goal

pub note_target-requires-clause-uses : goal.note_target-requires-clause-uses
note_target-requires-clause-uses c =
    subst (λ (n : ℕ). UsesTarget c.args.plan.now n c.args.stop.now.place.row c.args.target) (sym c.requires.stop.node)
    (uses_target c.args.plan.now c.args.stop.now.depth c.args.stop.now.class.now c.args.stop.now.place.row c.args.target
    c.args.stop.now.row.now c.requires.stop.may c.requires.stop.row
    c.requires.stop.at (c.reaches_by.ensures.0 c.if-not-reaches_by.false))
