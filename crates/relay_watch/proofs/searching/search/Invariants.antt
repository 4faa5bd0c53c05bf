use Rattle.std.proofs.Common.{take}
use Rattle.std.specs.List.{All}
use Rattle.relay_watch.specs.Reasons.{IsNoReason}
use Rattle.relay_watch.proofs.searching.search.Given as goal

-- the arrivals so far are no reason
abbrev pub invariant-loop-place : goal.invariant-loop-place
invariant-loop-place l = All (IsNoReason l.sent.plan.now l.sent.node l.sent.to l.sent.message.now) (take l.place l.waiting)
