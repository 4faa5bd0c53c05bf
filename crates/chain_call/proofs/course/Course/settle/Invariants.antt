use Rattle.std.proofs.Common.{◌≡◌, ◌-◌}
use Rattle.chain_call.specs.Steps.{settled, settled_in}
use Rattle.chain_call.proofs.course.Course.settle.Given as goal

-- the turns that are left lead to the same result as all of them
abbrev pub invariant-loop-turn : goal.invariant-loop-turn
invariant-loop-turn l = settled_in (18446744073709551615 - l._turn) l.self ≡ settled l.fn.self
