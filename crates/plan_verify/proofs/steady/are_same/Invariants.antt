use Rattle.std.proofs.Common.{◌≡◌, take}
use Rattle.plan_verify.proofs.steady.are_same.Given as goal

-- the hops so far are the same
abbrev pub invariant-loop-i : goal.invariant-loop-i
invariant-loop-i l = take l.i l.hops ≡ take l.i l.others
