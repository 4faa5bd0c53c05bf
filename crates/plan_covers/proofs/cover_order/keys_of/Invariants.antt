use Rattle.plan_covers.specs.Keys.{HasKeys}
use Rattle.plan_covers.proofs.cover_order.keys_of.Given as goal

-- the keys of the covers so far
abbrev pub invariant-loop-place : goal.invariant-loop-place
invariant-loop-place l = HasKeys l.covers l.place l.keys.items
