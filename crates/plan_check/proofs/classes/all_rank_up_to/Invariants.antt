use Rattle.std.proofs.Common.{take}
use Rattle.std.specs.List.{All}
use Rattle.plan_check.specs.Ranking.{rank_in}
use Rattle.plan_check.specs.Ranked.{RanksUpTo}
use Rattle.plan_check.proofs.classes.all_rank_up_to.Given as goal

-- the classes so far have ranks up to the bound
abbrev pub invariant-loop-class : goal.invariant-loop-class
invariant-loop-class l = All (RanksUpTo (rank_in l.ranks) l.bound) (take l.class-index l.classes)
