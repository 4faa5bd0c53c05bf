use Rattle.std.proofs.Common.{take}
use Rattle.std.specs.List.{All, Contains}
use Rattle.plan_covers.proofs.needless.allows_all.Given as goal

-- the cover allows the places so far
abbrev pub invariant-loop-place : goal.invariant-loop-place
invariant-loop-place l = All (λ place. Contains l.cover.allowed place) (take l.place-index l.places)
