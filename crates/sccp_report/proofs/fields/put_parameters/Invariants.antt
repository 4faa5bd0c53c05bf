use Rattle.std.proofs.Common.{◌≡◌, ◌++◌, take}
use Rattle.sccp_report.specs.Fields.{parameter_lines}
use Rattle.sccp_report.proofs.fields.put_parameters.Given as goal

abbrev pub invariant-loop-param : goal.invariant-loop-param
invariant-loop-param l = l.text ≡ l.initial.text ++ parameter_lines (take l.param-index l.param-items)
