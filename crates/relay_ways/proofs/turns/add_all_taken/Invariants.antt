use Rattle.std.proofs.Common.{◌≡◌, ◌++◌, [], drop}
use Rattle.plan_model.specs.Network.{Network}
use Rattle.relay_ways.specs.Turns.{taken_turns, turn_conditions}
use Rattle.relay_ways.proofs.turns.add_all_taken.Given as goal

-- the conditions so far, then those of the targets ahead, are those of all
abbrev pub invariant-loop-target : goal.invariant-loop-target
invariant-loop-target l = (plan : Network)
    → l.found ++ turn_conditions (taken_turns plan l.node l.spot l.before l.target-index (drop l.target-index l.targets))
    ≡ l.fn.found ++ turn_conditions (taken_turns plan l.node l.spot [] 0 l.targets)
