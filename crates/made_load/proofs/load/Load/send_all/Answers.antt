use Rattle.std.proofs.Common.{◌∙◌, ap, arith}
use Rattle.made_load.specs.Loads.{before_message}
use Rattle.made_load.proofs.Sending.{goes_on}
use Rattle.made_load.proofs.load.Load.send_all.Goals as goal

pub loop-place-preserved : goal.loop-place-preserved
loop-place-preserved c =
    goes_on c.args.accepted.now.plan c.args.from c.args.upto c.loop-place.place c.args.self.now c.loop-place.self c.prepare.new.self
    c.send.new.self (omega arith)
    (c.in_ok-prepare.ensures ∙ ap
    (λ p. before_message p c.loop-place.place c.loop-place.self) c.plan.ensures.value) c.in_ok-send.ensures c.loop-place.invariant
