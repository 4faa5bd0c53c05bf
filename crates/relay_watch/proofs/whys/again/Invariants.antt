use Rattle.std.proofs.Common.{take}
use Rattle.std.specs.List.{All}
use Rattle.relay_watch.specs.Whys.{IsNoAnswered}
use Rattle.relay_watch.proofs.whys.again.Given as goal

-- because of the arrivals so far the relay does not send the message
abbrev pub invariant-loop-one : goal.invariant-loop-one
invariant-loop-one l = All (IsNoAnswered l.sent.plan.now l.sent.node l.sent.to l.sent.message.now) (take l.one-index l.answered)
