use Rattle.std.proofs.Common.{subst}
use Rattle.std.specs.Prelude.{IsSome}
use Rattle.std.proofs.lemmas.List.Elements.{All-more}
use Rattle.plan_check.specs.Ranking.{rank_in}
use Rattle.plan_check.proofs.classes.all_have_ranks.Goals as goal

pub loop-class-preserved : goal.loop-class-preserved
loop-class-preserved c =
    All-more (λ class. IsSome
    (rank_in c.args.ranks.now class)) c.args.classes.now c.loop-class.class-index c.class-item.result c.loop-class-test.true
    c.loop-class.invariant
    (subst (λ class. IsSome (rank_in c.args.ranks.now class)) c.class-item.is (c.has.ensures.0 c.if-not-has.false))
