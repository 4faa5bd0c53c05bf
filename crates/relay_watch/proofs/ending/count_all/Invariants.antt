use Rattle.std.proofs.Common.{◌≡◌, drop}
use Rattle.relay_watch.specs.Kept.{all_counted}
use Rattle.relay_watch.proofs.ending.count_all.Given as goal

-- what is counted so far, with those ahead, is all
abbrev pub invariant-loop-one : goal.invariant-loop-one
invariant-loop-one l = all_counted l.relays (drop l.one-index l.found) ≡ all_counted l.fn.relays l.found
