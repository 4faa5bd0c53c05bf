use Rattle.std.proofs.Common.{◌≡◌, ◌++◌, drop, map}
use Rattle.couple_chain.specs.Logged.{logged}
use Rattle.chain_world.specs.Staged.{told_piece}
use Rattle.chain_world.proofs.pieces.passed_by.Given as goal

-- the pieces so far, and those of the entries that are left
abbrev pub invariant-loop-entry : goal.invariant-loop-entry
invariant-loop-entry l = map told_piece l.pieces ++ logged l.fn.own (drop l.entry-index l.passed) ≡ logged l.fn.own l.passed
