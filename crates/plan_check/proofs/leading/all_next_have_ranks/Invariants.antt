use Rattle.std.proofs.Common.{take}
use Rattle.std.specs.List.{All}
use Rattle.plan_check.specs.Ranking.{rank_in}
use Rattle.plan_check.specs.Checks.{NextHasRank}
use Rattle.plan_check.proofs.leading.all_next_have_ranks.Given as goal

-- the next classes so far have ranks
abbrev pub invariant-loop-image : goal.invariant-loop-image
invariant-loop-image l = All (NextHasRank (rank_in l.ranks)) (take l.image-index l.images)
