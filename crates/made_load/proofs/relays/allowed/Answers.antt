use Rattle.std.proofs.Common.{ap}
use Rattle.made_load.specs.Relays.{end_point}
use Rattle.made_load.proofs.Growing.{one_more}
use Rattle.made_load.proofs.relays.allowed.Goals as goal

pub loop-digit-preserved : goal.loop-digit-preserved
loop-digit-preserved c = one_more (λ d. (end_point d, 6)) _ _ c.loop-digit.digit _ c.loop-digit.invariant
    (ap (λ p. (p, 6)) c.end_point.ensures) c.in_ok-push.ensures.ok
