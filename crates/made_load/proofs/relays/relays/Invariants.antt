use Rattle.std.proofs.Common.{◌≡◌, map}
use Rattle.std.specs.List.{range_with_len}
use Rattle.made_load.specs.Relays.{relay}
use Rattle.made_load.proofs.relays.relays.Given as goal

-- the relays so far
abbrev pub invariant-loop-place : goal.invariant-loop-place
invariant-loop-place l = l.nodes ≡ map (relay l.number) (range_with_len 0 l.place)
