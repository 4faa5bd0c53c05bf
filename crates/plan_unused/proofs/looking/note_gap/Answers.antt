use Rattle.std.proofs.Common.{ℕ, sym, subst}
use Rattle.plan_unused.specs.Uses.{UsesRelay}
use Rattle.plan_unused.proofs.Noting.{uses_relay, gap_noted}
use Rattle.plan_unused.proofs.looking.note_gap.Goals as goal

pub note_relay-requires-clause-uses : goal.note_relay-requires-clause-uses
note_relay-requires-clause-uses c =
    subst (λ (n : ℕ). UsesRelay c.args.plan.now n) (sym c.node.ensures.value)
    (uses_relay c.args.plan.now c.requires.may.0 c.args.class.now c.requires.may.1)

pub note_gap-requires-clause-gap : goal.note_gap-requires-clause-gap
note_gap-requires-clause-gap c =
    gap_noted c.args.plan.now c.requires.may.0 c.args.class.now _ _ _ c.requires.may.1 c.requires.row c.cover.ensures.value
    c.spot_of.ensures
    c.sample.ensures.value
