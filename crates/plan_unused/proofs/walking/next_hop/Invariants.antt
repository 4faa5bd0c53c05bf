use Rattle.std.proofs.Common.{◌+◌}
use Rattle.plan_unused.specs.Walks.{IsSeen, IsMore, Grows}
use Rattle.plan_unused.proofs.Visiting.{AreVisited}
use Rattle.plan_unused.proofs.walking.next_hop.Given as goal

-- the stops so far are settled
abbrev pub invariant-loop-place : goal.invariant-loop-place
invariant-loop-place l = record {
  grows : Grows l.plan (l.depth + 1) l.fn.met l.met;
  sound : IsSeen l.plan l.seen;
  more : IsMore l.fn.seen l.seen;
  visited : AreVisited l.plan l.depth l.fn.met l.seen l.met l.place;
}
