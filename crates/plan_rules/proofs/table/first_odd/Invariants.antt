use Rattle.std.proofs.Common.{◌≡◌, false}
use Rattle.std.specs.List.{AllWithin}
use Rattle.plan_rules.specs.Tables.{makes_odd, IsRule}
use Rattle.plan_rules.proofs.table.first_odd.Given as goal

-- no row so far makes a title odd, and each keeps its own limits
abbrev pub invariant-loop-i : goal.invariant-loop-i
invariant-loop-i l = record {
  even : AllWithin (λ r. makes_odd r ≡ false) l.rows 0 l.i;
  rules : AllWithin IsRule l.rows 0 l.i;
}
