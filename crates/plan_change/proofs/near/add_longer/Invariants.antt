use Rattle.std.proofs.Common.{◌≤◌}
use Rattle.plan_change.specs.Near.{StayAmong}
use Rattle.plan_change.proofs.NearKeys.{HasUpTo}
use Rattle.plan_change.proofs.near.add_longer.Given as goal

-- the places of the keys so far are there
abbrev pub invariant-loop-next : goal.invariant-loop-next
invariant-loop-next l = record {
  from : l.below ≤ l.next;
  stay : StayAmong l.fn.places.items l.places.items;
  met : HasUpTo l.order l.below l.next l.places.items;
}
