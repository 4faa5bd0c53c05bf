use Rattle.std.proofs.Common.{subst}
use Rattle.std.proofs.lemmas.List.Elements.{All-more}
use Rattle.plan_check.specs.Ranking.{rank_in}
use Rattle.plan_check.specs.Checks.{NextHasRank}
use Rattle.plan_check.proofs.leading.all_next_have_ranks.Goals as goal

pub loop-image-preserved : goal.loop-image-preserved
loop-image-preserved c =
    All-more (NextHasRank (rank_in c.args.ranks.now)) c.args.images.now c.loop-image.image-index c.image-item.result c.loop-image-test.true
    c.loop-image.invariant
    (subst (NextHasRank (rank_in c.args.ranks.now)) c.image-item.is (c.next_has_rank.ensures.0 c.if-not-next_has_rank.false))
