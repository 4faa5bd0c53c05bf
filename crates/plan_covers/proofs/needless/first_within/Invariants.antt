use Rattle.plan_covers.proofs.Fronts.{IsFirstShorter}
use Rattle.plan_covers.proofs.needless.first_within.Given as goal

-- the first of the covers whose prefix has fewer digits
abbrev pub invariant-loop-count : goal.invariant-loop-count
invariant-loop-count l = IsFirstShorter l.covers l.place l.count l.first
