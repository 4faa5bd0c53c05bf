use Rattle.std.proofs.Common.{◌≡◌, replicate}
use Rattle.plan_margin.proofs.finding.copies.Given as goal

abbrev pub invariant-loop : goal.invariant-loop
invariant-loop l = l.copies ≡ replicate l.counter l.marks
