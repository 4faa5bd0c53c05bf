use Rattle.std.proofs.Common.{◌≡◌, false, sym, subst, ◌∙◌}
use Rattle.couple_chain.specs.World.{is_node}
use Rattle.chain_world.specs.Kept.{Kept, network_of}
use Rattle.chain_world.proofs.Nodes.{node_not_there}
use Rattle.chain_world.proofs.world.World.deliver.Goals as goal

pub hand_out-requires-clause-outer : goal.hand_out-requires-clause-outer
hand_out-requires-clause-outer c =
    subst (λ (k : Kept). is_node (network_of k.plan) c.args.to ≡ false) c.self.view_is
    (node_not_there c.self.inside.plan c.args.to (sym c.node_at.ensures ∙ c.in-None-node_at.is))
