use Rattle.std.proofs.Common.{arith}
use Rattle.plan_unused.specs.Meets.Meets.{Onward}
use Rattle.plan_unused.proofs.looking.follow.Goals as goal

pub enter-requires-clause-may : goal.enter-requires-clause-may
enter-requires-clause-may c = record {
  node = c.in-Some.ensures.stays;
  meets = Onward c.args.stop.now.depth c.args.stop.now.class.now c.in-Some.next c.args.target c.requires.stop.may.meets
      (omega (arith, c.if-stop-ge-LAST_HOP.false))
      c.requires.stop.may.decided c.requires.reached c.in-Some.ensures.found;
}
