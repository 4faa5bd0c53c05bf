use Rattle.std.proofs.Common.{◌≡◌, ℕ}
use Rattle.std.specs.Prelude.{replicate}
use Rattle.relay_watch.proofs.counting.none_taken.Given as goal

-- a count for each of the targets so far
abbrev pub invariant-loop : goal.invariant-loop
invariant-loop l = l.counts ≡ replicate {A = ℕ} l.index 0
