use Rattle.std.proofs.Common.{◌+◌, arith}
use Rattle.plan_unused.proofs.Growing.{grows_none, grows_on, ranks_grown}
use Rattle.plan_unused.proofs.Settling.{more_none, more_on, deeper_ranks, may_visit, walk_next}
use Rattle.plan_unused.proofs.Visiting.{visited_next, visited_all, earlier_places, longer}
use Rattle.plan_unused.proofs.walking.next_hop.Goals as goal

pub loop-place-init : goal.loop-place-init
loop-place-init c = record {
  grows = grows_none c.args.plan.now (c.args.depth + 1) c.args.met.now;
  sound = c.requires.walk.sound;
  more = more_none c.args.seen.now;
  visited = λ place class lt is decided. absurd (c.requires.walk.earlier place class lt is);
}

pub look_at-requires-clause-place : goal.look_at-requires-clause-place
look_at-requires-clause-place c =
    omega (arith, c.loop-place-test.true, c.len-end.ensures, longer c.args.met.now c.loop-place.met c.loop-place.invariant.grows.places)

pub look_at-requires-clause-may : goal.look_at-requires-clause-may
look_at-requires-clause-may c = λ class is.
    may_visit c.args.plan.now c.args.depth c.args.first c.args.met.now c.loop-place.met c.args.seen.now class c.requires.sound
    c.requires.walk c.loop-place.invariant.grows is.rank

pub look_at-requires-clause-ranks : goal.look_at-requires-clause-ranks
look_at-requires-clause-ranks c =
    ranks_grown c.args.plan.now (c.args.depth + 1) c.args.met.now c.loop-place.met c.loop-place.invariant.grows
    (deeper_ranks c.args.plan.now c.args.depth c.args.met.now c.requires.walk.ranks)

pub loop-place-preserved : goal.loop-place-preserved
loop-place-preserved c = record {
  grows = grows_on c.args.plan.now (c.args.depth + 1) c.args.met.now c.loop-place.met c.look_at.new.met c.loop-place.invariant.grows
      c.in_ok-look_at.ensures.grows;
  sound = c.in_ok-look_at.ensures.seen;
  more = more_on c.args.seen.now c.loop-place.seen c.look_at.new.seen c.loop-place.invariant.more c.in_ok-look_at.ensures.more;
  visited = visited_next c.args.plan.now c.args.depth c.loop-place.seen c.look_at.new.seen c.args.met.now c.loop-place.met
      c.look_at.new.met c.loop-place.place c.in_ok-look_at.ensures.more c.loop-place.invariant.grows.kept
      c.loop-place.invariant.grows.places c.in_ok-look_at.ensures.grows.kept c.in_ok-look_at.ensures.settled
      c.loop-place.invariant.visited;
}

pub returns-clause-walk : goal.returns-clause-walk
returns-clause-walk c =
    walk_next c.args.plan.now c.args.depth c.args.first c.len-end.result c.args.met.now c.loop-place.met c.args.seen.now c.loop-place.seen
    c.requires.walk c.loop-place.invariant.grows c.loop-place.invariant.sound c.loop-place.invariant.more
    (visited_all c.args.plan.now c.args.depth c.loop-place.seen c.args.met.now c.loop-place.met c.loop-place.place
    (omega (arith, c.loop-place-test.false, c.len-end.ensures)) c.loop-place.invariant.visited)
    (earlier_places c.args.plan.now c.args.depth c.args.met.now c.loop-place.met c.len-end.result c.requires.walk.ranks
    c.loop-place.invariant.grows (omega (arith, c.len-end.ensures)))
