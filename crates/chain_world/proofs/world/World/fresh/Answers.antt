use Rattle.std.proofs.Common.{ap, ◌∙◌}
use Rattle.std.specs.List.{list_all}
use Rattle.couple_chain.specs.Line.{no_repeat, is_fresh}
use Rattle.couple_chain.specs.Relays.{Relaying}
use Rattle.chain_world.specs.Kept.{Kept, network_of, world_of}
use Rattle.chain_world.proofs.Asked.{fresh_by}
use Rattle.chain_world.proofs.world.World.fresh.Goals as goal

pub returns : goal.returns
returns c =
    c.are_fresh.ensures
    ∙ ap (list_all (λ (r : Relaying). no_repeat r.given)) c.as_slice.ensures.value
    ∙ fresh_by c.self.inside.plan c.self.inside.relays.items c.self.inside.links.items c.self.inside.history.items c.self.invariant
    ∙ ap (λ (k : Kept). is_fresh (network_of k.plan) (world_of k)) c.self.view_is
