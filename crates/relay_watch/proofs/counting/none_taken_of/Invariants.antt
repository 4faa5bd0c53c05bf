use Rattle.std.proofs.Common.{◌≡◌, ◌++◌, drop, map}
use Rattle.relay_watch.specs.Kept.{none_taken}
use Rattle.relay_watch.proofs.counting.none_taken_of.Given as goal

-- the lists so far, then those of the rows ahead, are those of all
abbrev pub invariant-loop-row : goal.invariant-loop-row
invariant-loop-row l = l.taken ++ map none_taken (drop l.row-index l.rows) ≡ map none_taken l.rows
