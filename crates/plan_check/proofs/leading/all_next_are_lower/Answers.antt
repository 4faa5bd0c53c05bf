use Rattle.std.proofs.Common.{subst}
use Rattle.std.proofs.lemmas.List.Elements.{All-more}
use Rattle.plan_check.specs.Ranking.{rank_in}
use Rattle.plan_check.specs.Checks.{NextIsLower}
use Rattle.plan_check.proofs.leading.all_next_are_lower.Goals as goal

pub loop-image-preserved : goal.loop-image-preserved
loop-image-preserved c =
    All-more (NextIsLower (rank_in c.args.ranks.now) c.args.bound) c.args.images.now c.loop-image.image-index c.image-item.result
    c.loop-image-test.true c.loop-image.invariant
    (subst (NextIsLower (rank_in c.args.ranks.now) c.args.bound) c.image-item.is (c.next_is_lower.ensures.0 c.if-not-next_is_lower.false))
