use Rattle.std.proofs.Common.{◌≡◌, ◌++◌, take}
use Rattle.std.specs.List.{flat_map}
use Rattle.sccp_report.specs.Surveys.{needless_line}
use Rattle.sccp_report.proofs.survey.put_covers.Given as goal

abbrev pub invariant-loop-needless : goal.invariant-loop-needless
invariant-loop-needless l = l.text ≡ l.initial.text ++ flat_map needless_line (take l.needless-index l.covers)
