use Rattle.std.proofs.Common.{◌≡◌, ◌≤◌, ◌-◌, true, false, length}
use Rattle.std.specs.List.{AllWithin}
use Rattle.plan_rules.specs.Order.{titles, titles_at, up_to}
use Rattle.plan_rules.proofs.hinted.count_from.Given as goal

-- the rows before the places that are left are not above the titles, and those after them are
abbrev pub invariant-loop-low : goal.invariant-loop-low
invariant-loop-low g l = record {
  halves : l.low ≤ l.high;
  within : l.high ≤ length l.ordered.order.now;
  below : AllWithin (λ place. up_to (titles_at l.ordered.rows.now place) (titles l.selector l.ssn l.digits)
      ≡ true) l.ordered.order.now 0 l.low;
  above : AllWithin (λ place. up_to (titles_at l.ordered.rows.now place) (titles l.selector l.ssn l.digits)
      ≡ false) l.ordered.order.now l.high (length l.ordered.order.now);
}

abbrev pub decreases-loop-low : goal.decreases-loop-low
decreases-loop-low g l = l.high - l.low
