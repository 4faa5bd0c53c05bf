use Rattle.std.proofs.Common.{ℕ, sym, subst}
use Rattle.std.proofs.lemmas.Result.{on_ok_weaker}
use Rattle.plan_unused.specs.Uses.{UsesRelay, UsesRow}
use Rattle.plan_unused.specs.Walks.{IsMore, IsFollowed, IsSettled}
use Rattle.plan_unused.proofs.Noting.{uses_relay, uses_row, ok_both}
use Rattle.plan_unused.proofs.Settling.{more_on, settled_row}
use Rattle.plan_unused.proofs.looking.look_row.Goals as goal

pub note_relay-requires-clause-uses : goal.note_relay-requires-clause-uses
note_relay-requires-clause-uses c =
    subst (λ (n : ℕ). UsesRelay c.args.plan.now n) (sym c.requires.stop.node)
    (uses_relay c.args.plan.now c.args.stop.now.depth c.args.stop.now.class.now c.requires.stop.may)

pub note_row-requires-clause-uses : goal.note_row-requires-clause-uses
note_row-requires-clause-uses c =
    subst (λ (n : ℕ). UsesRow c.args.plan.now n c.args.stop.now.place.row) (sym c.requires.stop.node)
    (uses_row c.args.plan.now c.args.stop.now.depth c.args.stop.now.class.now c.args.stop.now.place.row c.args.stop.now.row.now
    c.requires.stop.may c.requires.stop.row c.requires.stop.at)

pub returns-clause-more : goal.returns-clause-more
returns-clause-more c =
    on_ok_weaker {P = IsMore c.note_row.new.self c.look_targets.new.seen}
    {Q = IsMore c.args.seen.now c.look_targets.new.seen} c.look_targets.result
    (λ more. more_on c.args.seen.now c.note_row.new.self c.look_targets.new.seen
    (more_on c.args.seen.now c.note_relay.new.self c.note_row.new.self c.in_ok-note_relay.ensures.more c.in_ok-note_row.ensures.more) more)
    c.look_targets.ensures.more

pub returns-clause-settled : goal.returns-clause-settled
returns-clause-settled c =
    ok_both c.look_targets.result (IsMore c.note_row.new.self c.look_targets.new.seen)
    ((t : ℕ) → IsFollowed c.args.plan.now c.look_targets.new.seen c.look_targets.new.met c.args.stop.now.class.now c.args.stop.now.depth
    c.args.stop.now.place.row
    t)
    (IsSettled c.args.plan.now c.look_targets.new.seen c.look_targets.new.met c.args.stop.now.class.now c.args.stop.now.depth)
    (λ more followed. settled_row c.args.plan.now c.look_targets.new.seen c.look_targets.new.met c.args.stop.now.class.now
    c.args.stop.now.depth
    c.args.stop.now.place c.args.stop.now.row.now c.requires.stop.may.sound c.requires.stop.node c.requires.stop.row c.requires.stop.at
    (more.relays c.args.stop.now.place.node
    (c.in_ok-note_row.ensures.more.relays c.args.stop.now.place.node c.in_ok-note_relay.ensures.noted))
    (more.rows c.args.stop.now.place c.in_ok-note_row.ensures.noted) followed)
    c.look_targets.ensures.more c.look_targets.ensures.followed
