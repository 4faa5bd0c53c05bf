use Rattle.std.proofs.Common.{take}
use Rattle.std.specs.List.{All}
use Rattle.plan_check.specs.Ranking.{rank_in}
use Rattle.plan_check.specs.Checks.{NextIsLower}
use Rattle.plan_check.proofs.leading.all_next_are_lower.Given as goal

-- the next classes so far have lower ranks
abbrev pub invariant-loop-image : goal.invariant-loop-image
invariant-loop-image l = All (NextIsLower (rank_in l.ranks) l.bound) (take l.image-index l.images)
