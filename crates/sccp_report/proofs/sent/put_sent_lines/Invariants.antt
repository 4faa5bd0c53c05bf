use Rattle.std.proofs.Common.{◌≡◌, ◌++◌, take}
use Rattle.sccp_report.specs.Served.{sent_lines}
use Rattle.sccp_report.proofs.sent.put_sent_lines.Given as goal

abbrev pub invariant-loop-outcome : goal.invariant-loop-outcome
invariant-loop-outcome l = l.text ≡ l.initial.text ++ sent_lines l.line (take l.outcome-index l.outcomes)
