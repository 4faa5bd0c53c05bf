use Rattle.std.proofs.Common.{◌+◌, arith}
use Rattle.plan_unused.proofs.Growing.{grows_none, grows_on, ranks_grown}
use Rattle.plan_unused.proofs.Settling.{more_none, more_on, followed_next, followed_all}
use Rattle.plan_unused.proofs.looking.look_targets.Goals as goal

pub loop-target-init : goal.loop-target-init
loop-target-init c = record {
  grows = grows_none c.args.plan.now (c.args.stop.now.depth + 1) c.args.met.now;
  sound = c.requires.seen;
  more = more_none c.args.seen.now;
  followed = λ t lt. absurd (omega (arith, lt));
}

pub look_target-requires-clause-ranks : goal.look_target-requires-clause-ranks
look_target-requires-clause-ranks c =
    ranks_grown c.args.plan.now (c.args.stop.now.depth + 1) c.args.met.now c.loop-target.met
    c.loop-target.invariant.grows c.requires.ranks

pub look_target-requires-clause-seen : goal.look_target-requires-clause-seen
look_target-requires-clause-seen c = c.loop-target.invariant.sound

pub loop-target-preserved : goal.loop-target-preserved
loop-target-preserved c = record {
  grows = grows_on c.args.plan.now
      (c.args.stop.now.depth + 1) c.args.met.now c.loop-target.met c.look_target.new.met c.loop-target.invariant.grows
      c.in_ok-look_target.ensures.grows;
  sound = c.in_ok-look_target.ensures.seen;
  more = more_on c.args.seen.now c.loop-target.seen c.look_target.new.seen c.loop-target.invariant.more c.in_ok-look_target.ensures.more;
  followed = followed_next c.args.plan.now c.loop-target.seen c.look_target.new.seen c.loop-target.met c.look_target.new.met
      c.args.stop.now.class.now c.args.stop.now.depth c.args.stop.now.place.row c.loop-target.target c.in_ok-look_target.ensures.more
      c.in_ok-look_target.ensures.grows.kept c.loop-target.invariant.followed c.in_ok-look_target.ensures.followed;
}

pub returns-clause-followed : goal.returns-clause-followed
returns-clause-followed c =
    followed_all c.args.plan.now c.loop-target.seen c.loop-target.met c.args.stop.now.class.now c.args.stop.now.depth
    c.args.stop.now.place.row
    c.loop-target.target
    c.args.stop.now.row.now c.requires.stop.row (omega (arith, c.target_count-target-end.ensures, c.loop-target-test.false))
    c.loop-target.invariant.followed
