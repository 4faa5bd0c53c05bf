use Rattle.std.proofs.Common.{map}
use Rattle.std.specs.List.{All}
use Rattle.std.specs.Map.Iter.{deref_pair}
use Rattle.plan_check.specs.Ranking.{rank_in}
use Rattle.plan_check.specs.Ranked.{IsRankedClass}
use Rattle.plan_check.proofs.classes.test_classes.Given as goal

-- the classes so far are ranked
abbrev pub invariant-loop-class : goal.invariant-loop-class
invariant-loop-class l = All (λ e. IsRankedClass l.plan (rank_in l.ranks) e.0 e.1) (map deref_pair l.yielded)
