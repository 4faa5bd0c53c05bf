use Rattle.std.proofs.Common.{◌∙◌}
use Rattle.plan_check.proofs.Soundness.{ok_both}
use Rattle.plan_change.proofs.Onward.{bad_here, held_node, held_decided}
use Rattle.plan_change.proofs.following.bad_way.Goals as goal

pub opening-requires-clause-node : goal.opening-requires-clause-node
opening-requires-clause-node c = held_node _ _ c.held.result.now c.args.origin.which c.args.class.now c.held.ensures c.requires.may

pub opening-requires-clause-decided : goal.opening-requires-clause-decided
opening-requires-clause-decided c = held_decided _ _ c.held.result.now c.args.origin.which c.args.class.now c.held.ensures c.requires.may

pub returns : goal.returns
returns c =
    ok_both c.one_turn.result _ _ _
    (λ way at one. bad_here _ _ _ c.held.result.now c.args.origin.which c.args.class.now c.args.origin.target c.args.digits _ way
    c.held.ensures (at ∙ c.spot_of.ensures) one c.requires.lets c.requires.member c.in_ok-marking.ensures.takes c.requires.bad)
    c.one_turn.ensures.spot c.one_turn.ensures.turns
