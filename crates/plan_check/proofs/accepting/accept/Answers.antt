use Rattle.std.specs.List.{All}
use Rattle.std.proofs.Common.{subst}
use Rattle.sccp_base.specs.Marks.{IsMarking}
use Rattle.plan_model.proofs.Spots.{in_range}
use Rattle.plan_check.proofs.accepting.accept.Goals as goal

pub new-requires : goal.new-requires
new-requires c = record {
  plan = c.requires.plan;
  some = c.requires.some;
  few = c.requires.few;
  safe = c.requires.safe;
  tight = c.requires.tight;
  range = in_range c.args.plan c.args.longest.spot c.args.longest.markings c.requires.plan c.requires.tight.covered
      (subst (All IsMarking) c.as_slice.ensures c.vouch.ensures);
}
