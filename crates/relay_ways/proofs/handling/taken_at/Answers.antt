use Rattle.std.proofs.Common.{sym, ◌∙◌, ap, subst}
use Rattle.std.specs.Option.{option_and_then}
use Rattle.relay_ways.specs.Handling.{row_at, IsTakenAt}
use Rattle.relay_ways.proofs.Handled.{taken_none, taken_some}
use Rattle.relay_ways.proofs.handling.taken_at.Goals as goal

pub returns-in-None : goal.returns-in-None
returns-in-None c =
    taken_none c.args.plan.now c.args.spot.now c.args.marking.now
    (sym c.row_place.ensures ∙ ap (option_and_then (row_at c.args.plan.now c.args.spot.now.node)) c.in-None.is)

pub returns-in_ok-target-in-Some : goal.returns-in_ok-target-in-Some
returns-in_ok-target-in-Some c =
    subst (IsTakenAt c.args.plan.now c.args.spot.now c.args.marking.now) (sym c.taken_of.ensures)
    (taken_some c.args.plan.now c.args.spot.now c.args.marking.now c.in-Some.row c.in_ok-target-in-Some.target
    (sym (ap (option_and_then (row_at c.args.plan.now c.args.spot.now.node)) c.in-Some.is)
    ∙ c.row_place.ensures) c.in_ok-target-in-Some.ensures)
