use Rattle.std.proofs.Common.{take}
use Rattle.relay_ways.specs.Conditions.{HoldsOneOf}
use Rattle.relay_ways.proofs.condition.least_marking.Given as goal

-- a mark of each list so far is held
abbrev pub invariant-loop-marks : goal.invariant-loop-marks
invariant-loop-marks l = HoldsOneOf l.marking (take l.marks-index l.condition.one_of) l.condition.none_of
