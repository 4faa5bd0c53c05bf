use Rattle.std.proofs.Common.{take}
use Rattle.std.specs.List.{All}
use Rattle.plan_check.specs.Ranking.{rank_in}
use Rattle.plan_verify.specs.Attained.{RanksFrom}
use Rattle.plan_verify.proofs.high.high_part.Given as goal

-- none so far has that rank
abbrev pub invariant-loop-part : goal.invariant-loop-part
invariant-loop-part l = All (λ part. RanksFrom (rank_in l.ranks) l.least part → ⊥) (take l.part-index l.parts)
