use Rattle.std.proofs.Common.{◌≡◌, take}
use Rattle.relay_ways.proofs.alike.same_params.Given as goal

-- the parameters so far are the same
abbrev pub invariant-loop-i : goal.invariant-loop-i
invariant-loop-i l = take l.i l.a ≡ take l.i l.b
