use Rattle.std.proofs.Common.{◌≡◌, map}
use Rattle.std.specs.List.{range_with_len}
use Rattle.made_load.specs.Relays.{end_point}
use Rattle.made_load.proofs.relays.allowed.Given as goal

-- the destinations so far
abbrev pub invariant-loop-digit : goal.invariant-loop-digit
invariant-loop-digit l = l.places ≡ map (λ d. (end_point d, 6)) (range_with_len 0 l.digit)
