use Rattle.std.proofs.Common.{subst}
use Rattle.std.proofs.lemmas.List.Elements.{All-more}
use Rattle.plan_check.specs.Ranking.{rank_in}
use Rattle.plan_check.specs.Ranked.{RanksUpTo}
use Rattle.plan_check.proofs.classes.all_rank_up_to.Goals as goal

pub loop-class-preserved : goal.loop-class-preserved
loop-class-preserved c =
    All-more (RanksUpTo (rank_in c.args.ranks.now) c.args.bound) c.args.classes.now c.loop-class.class-index c.class-item.result
    c.loop-class-test.true c.loop-class.invariant
    (subst (RanksUpTo (rank_in c.args.ranks.now) c.args.bound) c.class-item.is (c.ranks_up_to.ensures.0 c.if-not-ranks_up_to.false))
