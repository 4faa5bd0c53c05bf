use Rattle.std.proofs.Common.{◌≡◌, ◌++◌, [], drop}
use Rattle.relay_ways.specs.Turns.{closed_turns, turn_conditions}
use Rattle.relay_ways.proofs.turns.add_each_closed.Given as goal

-- the conditions so far, then those of the marks ahead, are those of all
abbrev pub invariant-loop-mark : goal.invariant-loop-mark
invariant-loop-mark l = l.found ++ turn_conditions (closed_turns l.before l.free (drop l.mark-index l.marks))
    ≡ l.fn.found ++ turn_conditions (closed_turns l.before [] l.marks)
