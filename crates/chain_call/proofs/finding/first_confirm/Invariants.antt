use Rattle.std.proofs.Common.{◌≡◌, drop}
use Rattle.chain_call.specs.Notes.{first_confirm}
use Rattle.chain_call.proofs.finding.first_confirm.Given as goal

-- the first one among what is left is the first of them all
abbrev pub invariant-loop-h : goal.invariant-loop-h
invariant-loop-h l = first_confirm l.fn.point (drop l.h-index l.handed) ≡ first_confirm l.fn.point l.handed
