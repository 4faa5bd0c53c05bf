use Rattle.std.proofs.Common.{◌≡◌, [], ◌∷◌, ◌++◌, None, List, ℕ, ap, sym, subst, ◌∙◌}
use Rattle.couple_chain.specs.World.{offer_fault}
use Rattle.chain_world.specs.Kept.{Kept, network_of, world_of}
use Rattle.chain_world.specs.Links.{octets_on, with_at}
use Rattle.chain_world.specs.Running.{IsWorld}
use Rattle.chain_world.proofs.Happens.{accepted}
use Rattle.chain_world.proofs.world.World.accept.Goals as goal

pub invariant_of-self-in-Ok : goal.invariant_of-self-in-Ok
invariant_of-self-in-Ok c =
    subst (IsWorld c.self.inside.plan c.self.inside.relays.items c.put.new.links.items) (sym c.in_ok-note.ensures.ok)
    (accepted c.self.inside.plan c.self.inside.relays.items c.self.inside.links.items c.put.new.links.items c.self.inside.history.items
    c.args.from c.args.to c.args.message c.self.invariant
    (subst (λ (k : Kept). offer_fault (network_of k.plan) (world_of k) c.args.from c.args.to c.args.message ≡ None)
    (sym c.self.view_is) c.requires.accepted)
    c.requires.fit
    (λ a b. c.in-Ok.ensures.ok a b
    ∙ ap (λ (os : List ℕ). with_at c.args.from c.args.to (octets_on c.self.inside.links.items c.args.from c.args.to ++ os ∷ [])
    (octets_on c.self.inside.links.items) a b) c.requires.written)
    c.in-Ok.ensures.gone)
