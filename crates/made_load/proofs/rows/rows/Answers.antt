use Rattle.made_load.specs.Relays.{row_of}
use Rattle.made_load.proofs.Growing.{one_more}
use Rattle.made_load.proofs.rows.rows.Goals as goal

pub loop-digit-preserved : goal.loop-digit-preserved
loop-digit-preserved c = one_more
    (row_of c.args.number c.args.place) _ _ c.loop-digit.digit _ c.loop-digit.invariant c.in_ok-row.ensures c.in_ok-push.ensures.ok
