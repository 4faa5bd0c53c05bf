use Rattle.std.proofs.Common.{◌≡◌, ◌||◌, take}
use Rattle.sccp_base.specs.declared.mark.Mark.{Mark}
use Rattle.sccp_base.specs.Marks.{holds}
use Rattle.plan_verify.proofs.steady.add.Given as goal

-- the marks so far are held besides the old ones
abbrev pub invariant-loop-mark : goal.invariant-loop-mark
invariant-loop-mark l = (mark : Mark) → holds l.marking mark ≡ (holds l.fn.marking mark || holds (take l.mark-index l.marks) mark)
