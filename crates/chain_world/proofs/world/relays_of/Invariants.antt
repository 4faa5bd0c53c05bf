use Rattle.std.proofs.Common.{◌≡◌, map}
use Rattle.std.specs.List.{range_with_len}
use Rattle.couple_chain.specs.Relays.{first_relay}
use Rattle.chain_world.proofs.world.relays_of.Given as goal

-- the relays so far
abbrev pub invariant-loop-node : goal.invariant-loop-node
invariant-loop-node l = l.relays.items ≡ map first_relay (range_with_len 0 l.node)
