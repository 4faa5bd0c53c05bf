use Rattle.std.proofs.Common.{◌≡◌, [], replicate}
use Rattle.sccp_plans.proofs.following.unmarked.Given as goal

abbrev pub invariant-loop : goal.invariant-loop
invariant-loop l = l.markings.items ≡ replicate l.counter []
