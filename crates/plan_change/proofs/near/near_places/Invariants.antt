use Rattle.plan_change.proofs.NearKeys.{HasShorter}
use Rattle.plan_change.proofs.near.near_places.Given as goal

-- the places of the covers whose prefix has fewer digits
abbrev pub invariant-loop-count : goal.invariant-loop-count
invariant-loop-count l = HasShorter l.cover l.count l.order l.places.items
