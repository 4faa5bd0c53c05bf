use Rattle.std.proofs.Common.{◌≡◌, ◌++◌, take, drop}
use Rattle.sccp_couple.specs.Sections.{changed, confirmed}
use Rattle.sccp_couple.proofs.finding.confirm_among.Given as goal

abbrev pub invariant-loop-section : goal.invariant-loop-section
invariant-loop-section l = l.sections ≡ changed (confirmed l.remote) l.own (take l.section-index l.fn.sections)
    ++ drop l.section-index l.fn.sections
