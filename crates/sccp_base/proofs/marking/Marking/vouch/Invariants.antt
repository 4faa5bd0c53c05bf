use Rattle.std.specs.List.{AllWithin}
use Rattle.sccp_base.specs.Marks.{IsMarking}
use Rattle.sccp_base.proofs.marking.Marking.vouch.Given as goal

-- each marking up to this one
abbrev pub invariant-loop-marking : goal.invariant-loop-marking
invariant-loop-marking l = AllWithin IsMarking l.markings 0 l.marking-index
