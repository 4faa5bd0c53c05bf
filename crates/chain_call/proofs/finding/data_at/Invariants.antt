use Rattle.std.proofs.Common.{◌≡◌, take}
use Rattle.chain_call.specs.Notes.{data_at}
use Rattle.chain_call.proofs.finding.data_at.Given as goal

abbrev pub invariant-loop-h : goal.invariant-loop-h
invariant-loop-h l = l.octets.items ≡ data_at l.point l.reference (take l.h-index l.handed)
