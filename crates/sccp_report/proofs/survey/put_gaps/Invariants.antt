use Rattle.std.proofs.Common.{◌≡◌, ◌++◌, take}
use Rattle.std.specs.List.{flat_map}
use Rattle.sccp_report.specs.Surveys.{gap_line}
use Rattle.sccp_report.proofs.survey.put_gaps.Given as goal

abbrev pub invariant-loop-gap : goal.invariant-loop-gap
invariant-loop-gap l = l.text ≡ l.initial.text ++ flat_map (gap_line l.plan) (take l.gap-index l.gaps)
