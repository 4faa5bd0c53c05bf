use Rattle.std.proofs.Common.{◌≡◌, drop}
use Rattle.couple_chain.specs.Line.{no_repeat}
use Rattle.chain_world.proofs.asking.no_repeat.Given as goal

-- the references that are left are without a repeat exactly if all are
abbrev pub invariant-loop-place : goal.invariant-loop-place
invariant-loop-place l = no_repeat (drop l.place l.fn.given) ≡ no_repeat l.fn.given
