use Rattle.plan_check.specs.Ranking.{rank_in}
use Rattle.plan_check.proofs.Greatest.{AreRanked}
use Rattle.plan_check.proofs.starts.greatest_start.Given as goal

-- the starts so far have ranks up to the greatest
abbrev pub invariant-loop-number : goal.invariant-loop-number
invariant-loop-number l = AreRanked l.plan (rank_in l.ranks) l.number l.greatest
