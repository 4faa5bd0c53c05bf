use Rattle.std.proofs.Common.{◌≡◌, ◌++◌, take}
use Rattle.std.specs.List.{flat_map}
use Rattle.sccp_report.specs.Surveys.{unused_relay_line}
use Rattle.sccp_report.proofs.survey.put_relays.Given as goal

abbrev pub invariant-loop-node : goal.invariant-loop-node
invariant-loop-node l = l.text ≡ l.initial.text ++ flat_map (unused_relay_line l.plan) (take l.node-index l.relays)
