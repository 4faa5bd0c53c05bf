use Rattle.std.proofs.Common.{◌≡◌, ◌++◌}
use Rattle.std.specs.Map.{values_of}
use Rattle.std.specs.BTreeMap.{values}
use Rattle.plan_rules.proofs.order.in_order.Given as goal

-- the places so far, and then those that are left
abbrev pub invariant-loop-place : goal.invariant-loop-place
invariant-loop-place l = l.order.items ++ values_of l.place-iterator ≡ values l.places
