use Rattle.plan_unused.specs.Walks.{IsWalk}
use Rattle.plan_unused.proofs.walking.walk.Given as goal

-- what every walk keeps
abbrev pub invariant-loop-depth : goal.invariant-loop-depth
invariant-loop-depth l = IsWalk l.plan l.depth l.first l.met l.seen
