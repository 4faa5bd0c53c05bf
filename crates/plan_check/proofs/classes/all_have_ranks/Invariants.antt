use Rattle.std.proofs.Common.{take}
use Rattle.std.specs.Prelude.{IsSome}
use Rattle.std.specs.List.{All}
use Rattle.plan_check.specs.Ranking.{rank_in}
use Rattle.plan_check.proofs.classes.all_have_ranks.Given as goal

-- the classes so far have ranks
abbrev pub invariant-loop-class : goal.invariant-loop-class
invariant-loop-class l = All (λ class. IsSome (rank_in l.ranks class)) (take l.class-index l.classes)
