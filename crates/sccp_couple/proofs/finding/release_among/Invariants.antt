use Rattle.std.proofs.Common.{◌≡◌, ◌++◌, take, drop}
use Rattle.sccp_couple.specs.Sections.{changed, released}
use Rattle.sccp_couple.proofs.finding.release_among.Given as goal

abbrev pub invariant-loop-section : goal.invariant-loop-section
invariant-loop-section l = l.sections ≡ changed (released) l.own (take l.section-index l.fn.sections) ++ drop l.section-index l.fn.sections
