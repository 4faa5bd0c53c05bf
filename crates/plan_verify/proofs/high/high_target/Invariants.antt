use Rattle.std.proofs.Common.{◌<◌, ℕ}
use Rattle.plan_classes.specs.Titles.{Titles}
use Rattle.plan_check.specs.Ranking.{rank_in}
use Rattle.plan_verify.specs.Attained.{RanksFrom, LeadsToClass}
use Rattle.plan_verify.proofs.high.high_target.Given as goal

-- no target so far leads to a class of that rank
abbrev pub invariant-loop-place : goal.invariant-loop-place
invariant-loop-place l = (place : ℕ) (next : Titles) → place < l.place → LeadsToClass l.plan l.class place next
    → RanksFrom (rank_in l.ranks) l.least next → ⊥
