use Rattle.std.proofs.Common.{ℕ, ◌+◌, ◌<◌}
use Rattle.plan_unused.specs.Walks.{IsSeen, IsMore, Grows, IsFollowed}
use Rattle.plan_unused.proofs.looking.look_targets.Given as goal

-- the targets so far were followed
abbrev pub invariant-loop-target : goal.invariant-loop-target
invariant-loop-target l = record {
  grows : Grows l.plan (l.stop.depth + 1) l.fn.met l.met;
  sound : IsSeen l.plan l.seen;
  more : IsMore l.fn.seen l.seen;
  followed : (t : ℕ) → t < l.target → IsFollowed l.plan l.seen l.met l.stop.class.now l.stop.depth l.stop.place.row t;
}
