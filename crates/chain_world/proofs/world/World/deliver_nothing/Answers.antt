use Rattle.std.proofs.Common.{◌≡◌, [], sym, subst}
use Rattle.chain_world.specs.Kept.{Kept, world_of}
use Rattle.chain_world.specs.Running.{IsWorld}
use Rattle.chain_world.proofs.Happens.{delivers_none}
use Rattle.chain_world.proofs.world.World.deliver_nothing.Goals as goal

pub invariant_of-self-2 : goal.invariant_of-self-2
invariant_of-self-2 c =
    subst (IsWorld c.self.inside.plan c.self.inside.relays.items c.self.inside.links.items) (sym c.in_ok-note.ensures.ok)
    (delivers_none c.self.inside.plan c.self.inside.relays.items c.self.inside.links.items c.self.inside.history.items c.args.from
    c.args.to c.self.invariant
    (subst (λ (k : Kept). (world_of k).waiting c.args.from c.args.to ≡ []) (sym c.self.view_is) c.requires))
