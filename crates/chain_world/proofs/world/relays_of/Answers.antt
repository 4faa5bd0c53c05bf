use Rattle.std.proofs.Common.{◌++◌, ◌∷◌, [], List, map, zero-add, sym, ap, ◌∙◌}
use Rattle.std.proofs.lemmas.List.FromFn.{map-range_with_len_more}
use Rattle.std.specs.List.{range_with_len}
use Rattle.couple_chain.specs.Relays.{Relaying, first_relay}
use Rattle.chain_world.proofs.world.relays_of.Goals as goal

pub loop-node-preserved : goal.loop-node-preserved
loop-node-preserved c =
    c.in_ok-push.ensures.items
    ∙ ap (λ (rs : List Relaying). rs ++ c.new.result ∷ []) c.loop-node.invariant
    ∙ ap (λ (r : Relaying). map first_relay (range_with_len 0 c.loop-node.node) ++ r ∷ []) c.new.ensures
    ∙ sym (map-range_with_len_more first_relay 0 c.loop-node.node c.loop-node.node (zero-add c.loop-node.node))
