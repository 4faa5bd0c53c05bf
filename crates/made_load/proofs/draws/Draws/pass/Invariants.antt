use Rattle.std.proofs.Common.{◌≡◌, ◌-◌}
use Rattle.made_load.specs.Draws.{after_digits}
use Rattle.made_load.proofs.draws.Draws.pass.Given as goal

-- the digits that are left lead to the same number as all ten
abbrev pub invariant-loop-turn : goal.invariant-loop-turn
invariant-loop-turn l = after_digits (10 - l._turn) l.self ≡ after_digits 10 l.initial.self
