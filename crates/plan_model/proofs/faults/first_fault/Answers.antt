use Rattle.std.proofs.Common.{sym, length, arith}
use Rattle.plan_model.proofs.Sound.{faultless_plan, some_from_test}
use Rattle.plan_model.proofs.faults.first_fault.Goals as goal

pub returns-in-None-clause-sound : goal.returns-in-None-clause-sound
returns-in-None-clause-sound c =
    faultless_plan c.args.limits c.args.nodes.now c.args.covers.now
    (record { nodes = omega arith; rows = omega arith; covers = omega arith })
    (sym c.in_default.ensures.counted) (sym c.in_default-first_repeated.ensures) (sym c.in_default-first_unknown.ensures)
    (sym c.in_default-first_relay_to_self.ensures)
    (some_from_test (length c.args.covers.now) (sym c.if-is_empty.ensures))
    (sym c.in-None.ensures.place) c.requires.nodes c.requires.covers c.first_limit_of.ensures.tables c.in-None.ensures.numbers
