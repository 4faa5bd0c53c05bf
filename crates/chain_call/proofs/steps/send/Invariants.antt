use Rattle.std.proofs.Common.{◌≡◌, drop}
use Rattle.chain_call.specs.Steps.{sent_by}
use Rattle.chain_call.proofs.steps.send.Given as goal

-- sending what is left has the same result as sending the whole from the start
abbrev pub invariant-loop-place : goal.invariant-loop-place
invariant-loop-place l = sent_by l.fn.from l.fn.to l.fn.reference (drop l.place l.octets) l.course
    ≡ sent_by l.fn.from l.fn.to l.fn.reference l.octets l.fn.course
