use Rattle.std.proofs.Common.{[], ◌-◌, length, refl, arith}
use Rattle.std.proofs.lemmas.Option.{slice_get_read, slice_get_past}
use Rattle.sccp_replay.proofs.ReplayerLemmas.{late_plan, no_late_plan}
use Rattle.sccp_replay.proofs.alone.plan_of_number.Goals as goal

pub returns-in-Some : goal.returns-in-Some
returns-in-Some c =
    late_plan c.args.first.now c.args.later.now [] c.args.number c.in-Some.accepted.now (omega (arith, c.if-number-lt2.false))
    (slice_get_read c.args.later.now (length c.args.later.now)
    (c.args.number - 2) c.in-Some.accepted.now refl c.in-Some.ensures.lookup.3.0 c.in-Some.ensures.lookup.1)

pub returns-in-None : goal.returns-in-None
returns-in-None c =
    no_late_plan c.args.first.now c.args.later.now [] c.args.number (omega (arith, c.if-number-lt2.false))
    (slice_get_past c.args.later.now (c.args.number - 2) c.in-None.ensures.lookup.3)
