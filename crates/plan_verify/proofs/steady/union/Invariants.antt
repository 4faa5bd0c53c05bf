use Rattle.std.proofs.Common.{◌≡◌, take}
use Rattle.sccp_base.specs.declared.mark.Mark.{Mark}
use Rattle.sccp_base.specs.Marks.{holds}
use Rattle.plan_model.specs.Verdicts.{union}
use Rattle.plan_verify.proofs.steady.union.Given as goal

-- the marks of the markings so far are held
abbrev pub invariant-loop-marking : goal.invariant-loop-marking
invariant-loop-marking l = (mark : Mark) → holds l.all mark ≡ holds (union (take l.marking-index l.markings)) mark
