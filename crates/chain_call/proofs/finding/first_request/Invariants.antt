use Rattle.std.proofs.Common.{◌≡◌, drop}
use Rattle.chain_call.specs.Notes.{first_request}
use Rattle.chain_call.proofs.finding.first_request.Given as goal

-- the first one among what is left is the first of them all
abbrev pub invariant-loop-h : goal.invariant-loop-h
invariant-loop-h l = first_request (drop l.h-index l.handed) ≡ first_request l.handed
