use Rattle.std.proofs.Common.{◌≡◌, None, drop, map, take}
use Rattle.std.specs.List.{All, filter}
use Rattle.relay_watch.specs.Repeats.{IsReached}
use Rattle.relay_watch.specs.Whys.{has_data, near_of, nearest_of}
use Rattle.relay_watch.proofs.whys.nearest.Given as goal

-- The nearest so far, then the arrivals ahead, give that of all. It passes as many tests as each so far.
abbrev pub invariant-loop-place : goal.invariant-loop-place
invariant-loop-place l =
    (nearest_of l.best (map (near_of l.sent.plan.now l.sent.node l.sent.to l.sent.message.now)
    (filter (has_data l.sent.node l.sent.message.now) (drop l.place l.waiting)))
    ≡ nearest_of None (map (near_of l.sent.plan.now l.sent.node l.sent.to l.sent.message.now)
    (filter (has_data l.sent.node l.sent.message.now) l.waiting)))
    × All (IsReached l.sent.plan.now l.sent.node l.sent.to l.sent.message.now l.best) (take l.place l.waiting)
