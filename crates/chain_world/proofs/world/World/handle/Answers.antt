use Rattle.std.proofs.Common.{◌≡◌, ℕ, Some, sym, subst, ap, position, ◌∙◌}
use Rattle.plan_model.specs.Network.{has_point}
use Rattle.couple_chain.specs.World.{after}
use Rattle.chain_world.specs.Kept.{Kept, network_of, world_of}
use Rattle.chain_world.specs.Links.{gone_from}
use Rattle.chain_world.specs.Running.{IsWorld, oldest_of}
use Rattle.chain_world.proofs.Happens.{handles, holds_message, gone_over, handled_answer}
use Rattle.chain_world.proofs.Nodes.{at_place, node_there}
use Rattle.chain_world.proofs.world.World.handle.Goals as goal

pub invariant_of-self-in-Ok : goal.invariant_of-self-in-Ok
invariant_of-self-in-Ok c =
    let t = holds_message ((after
    (network_of c.self.inside.plan) c.self.inside.history.items).waiting c.args.from c.args.to) c.args.message.now
    (subst (λ (k : Kept). oldest_of ((world_of k).waiting c.args.from c.args.to) ≡ Some c.args.message.now)
    (sym c.self.view_is) c.requires.oldest) in
    let found : position (has_point c.args.to) c.self.inside.plan.nodes ≡ Some c.from-place.result =
    subst (λ (k : Kept). position (has_point c.args.to) k.plan.nodes ≡ Some c.from-place.result) (sym c.self.view_is) (c.requires.node
    ∙ ap (λ (n : ℕ). Some n) (sym c.from-place.ensures)) in
    subst (IsWorld c.self.inside.plan _ c.pass.new.links.items) (sym c.in_ok-note.ensures.ok)
    (handles c.self.inside.plan c.self.inside.relays.items c.self.inside.links.items c.pass.new.links.items c.self.inside.history.items
    c.args.from c.args.to c.from-place.result c.args.message.now t.0 c.index_mut.result.now c.take_in.new.relay
    c.self.invariant t.1 (node_there c.self.inside.plan c.args.to c.from-place.result found)
    (at_place c.self.inside.plan c.args.to c.from-place.result found) c.index_mut.ensures.value c.in-Ok.ensures.relay
    (λ a b. c.pass.ensures.octets a b ∙ c.in-Ok.ensures.octets a b)
    (gone_over c.args.from c.args.to (gone_from c.self.inside.links.items) (gone_from c.take_in.new.links.items)
    (gone_from c.pass.new.links.items) c.in-Ok.ensures.gone c.pass.ensures.gone))

pub returns-in-Ok-clause-answer : goal.returns-in-Ok-clause-answer
returns-in-Ok-clause-answer c =
    let t = holds_message ((world_of c.args.self.now).waiting c.args.from c.args.to) c.args.message.now c.requires.oldest in
    handled_answer (network_of c.args.self.now.plan) c.args.from c.args.to
    ((world_of c.args.self.now).waiting c.args.from c.args.to) c.args.message.now t.0 t.1
    (node_there c.args.self.now.plan c.args.to c.args.node c.requires.node)
