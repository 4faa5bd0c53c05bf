use Rattle.std.proofs.Common.{◌<◌}
use Rattle.plan_unused.specs.Surveys.{IsUnusedRelay}
use Rattle.plan_unused.specs.Listed.{AreBefore}
use Rattle.plan_unused.proofs.listing.unused_relays.Given as goal

-- the unused relays so far
abbrev pub invariant-loop-node : goal.invariant-loop-node
invariant-loop-node l = AreBefore (λ i j. i < j) (IsUnusedRelay l.plan) l.node l.found
