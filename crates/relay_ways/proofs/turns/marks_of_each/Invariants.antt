use Rattle.std.proofs.Common.{◌≡◌, ◌++◌, drop, map}
use Rattle.plan_model.specs.Targets.{marks}
use Rattle.relay_ways.proofs.turns.marks_of_each.Given as goal

-- the marks of the targets so far, then those of the others, are those of all
abbrev pub invariant-loop-target : goal.invariant-loop-target
invariant-loop-target l = l.each ++ map (marks l.node l.ssn) (drop l.target-index l.targets) ≡ map (marks l.node l.ssn) l.targets
