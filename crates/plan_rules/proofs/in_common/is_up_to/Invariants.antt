use Rattle.std.proofs.Common.{◌≡◌, drop}
use Rattle.plan_rules.specs.Order.{up_to}
use Rattle.plan_rules.proofs.in_common.is_up_to.Given as goal

-- the numbers so far are the same, and what follows them decides
abbrev pub invariant-loop-i : goal.invariant-loop-i
invariant-loop-i l = up_to (drop l.i l.a) (drop l.i l.b) ≡ up_to l.a l.b
