use Rattle.made_load.specs.Relays.{relay}
use Rattle.made_load.proofs.Growing.{one_more}
use Rattle.made_load.proofs.relays.relays.Goals as goal

pub loop-place-preserved : goal.loop-place-preserved
loop-place-preserved c = one_more
    (relay c.args.number) _ _ c.loop-place.place _ c.loop-place.invariant c.in_ok-relay.ensures c.in_ok-push.ensures.ok
