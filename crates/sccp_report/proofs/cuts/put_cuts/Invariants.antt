use Rattle.std.proofs.Common.{◌≡◌, ◌++◌, drop}
use Rattle.sccp_report.specs.CutsText.{cut_lines}
use Rattle.sccp_report.proofs.cuts.put_cuts.Given as goal

-- the lines so far and those of the cuts that are left
abbrev pub invariant-loop-n : goal.invariant-loop-n
invariant-loop-n l = l.text ++ cut_lines l.n (drop l.n l.faults) ≡ l.initial.text ++ cut_lines 0 l.faults
