use Rattle.std.proofs.Common.{length, map, ℕ, ap, ◌∙◌}
use Rattle.std.specs.List.{range_with_len}
use Rattle.couple_chain.specs.Relays.{first_relay}
use Rattle.chain_world.proofs.Happens.{begins}
use Rattle.chain_world.proofs.world.World.new.Goals as goal

pub invariant_of-result : goal.invariant_of-result
invariant_of-result c =
    begins c.args.plan c.in_ok-relays.relays.items c.new.result.items c.new-2.result.items c.nodes.ensures.sound
    (c.in_ok-relays.ensures ∙ ap (λ (n : ℕ). map first_relay (range_with_len 0 n))
    (ap length (c.as_slice.ensures ∙ c.nodes.ensures.value))) c.new.ensures.items c.new-2.ensures.items
