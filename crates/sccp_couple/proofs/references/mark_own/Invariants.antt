use Rattle.std.proofs.Common.{◌≡◌, length, take}
use Rattle.sccp_couple.proofs.OwnMarks.{AreMarked}
use Rattle.sccp_couple.proofs.references.mark_own.Given as goal

-- the own references seen so far have their marks
abbrev pub invariant-loop-section : goal.invariant-loop-section
invariant-loop-section l = record {
  count : length l.marks ≡ length l.fn.marks;
  marked : AreMarked l.marks (take l.section-index l.sections);
}
