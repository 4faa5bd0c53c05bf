use Rattle.std.proofs.Common.{◌≡◌, ◌+◌, drop}
use Rattle.plan_rules.proofs.TitleOrder.{common}
use Rattle.plan_rules.proofs.in_common.common.Given as goal

-- the digits so far are in common, and the rest is what follows them
abbrev pub invariant-loop-i : goal.invariant-loop-i
invariant-loop-i l = l.i + common (drop l.i l.a) (drop l.i l.b) ≡ common l.a l.b
