use Rattle.std.proofs.Common.{◌≡◌, ◌++◌, take}
use Rattle.std.specs.List.{flat_map}
use Rattle.sccp_report.specs.Surveys.{unused_row_line}
use Rattle.sccp_report.proofs.survey.put_rows.Given as goal

abbrev pub invariant-loop-place : goal.invariant-loop-place
invariant-loop-place l = l.text ≡ l.initial.text ++ flat_map (unused_row_line l.plan) (take l.place-index l.rows)
