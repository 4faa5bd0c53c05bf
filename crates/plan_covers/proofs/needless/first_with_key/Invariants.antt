use Rattle.std.proofs.Common.{◌≤◌}
use Rattle.plan_covers.proofs.Groups.{NoneYet}
use Rattle.plan_covers.proofs.needless.first_with_key.Given as goal

-- the cover does not add nothing to those of the keys so far
abbrev pub invariant-loop-next : goal.invariant-loop-next
invariant-loop-next l = record {
  from : l.below ≤ l.next;
  none : NoneYet l.covers l.order l.place l.below l.next;
}
