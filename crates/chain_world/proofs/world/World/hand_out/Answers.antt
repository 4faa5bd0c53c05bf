use Rattle.std.proofs.Common.{◌≡◌, false, Some, sym, subst}
use Rattle.couple_chain.specs.World.{is_node, after}
use Rattle.chain_world.specs.Kept.{Kept, network_of, world_of}
use Rattle.chain_world.specs.Running.{IsWorld, oldest_of}
use Rattle.chain_world.proofs.Happens.{comes_out, holds_message}
use Rattle.chain_world.proofs.world.World.hand_out.Goals as goal

pub invariant_of-self : goal.invariant_of-self
invariant_of-self c =
    let t = holds_message ((after (network_of c.self.inside.plan) c.self.inside.history.items).waiting c.args.from c.args.to) c.args.message
    (subst (λ (k : Kept). oldest_of ((world_of k).waiting c.args.from c.args.to) ≡ Some c.args.message)
    (sym c.self.view_is) c.requires.oldest) in
    subst (IsWorld c.self.inside.plan c.self.inside.relays.items c.pass.new.links.items) (sym c.in-Ok.ensures.ok)
    (comes_out c.self.inside.plan c.self.inside.relays.items c.self.inside.links.items c.pass.new.links.items c.self.inside.history.items
    c.args.from c.args.to c.args.message t.0 c.self.invariant t.1
    (subst (λ (k : Kept). is_node (network_of k.plan) c.args.to ≡ false) (sym c.self.view_is) c.requires.outer)
    c.pass.ensures.octets c.pass.ensures.gone)
