use Rattle.std.proofs.Common.{◌≡◌, ◌++◌, take}
use Rattle.std.specs.List.{flat_map}
use Rattle.sccp_report.specs.Served.{segment_words}
use Rattle.sccp_report.proofs.segment.put_segments.Given as goal

abbrev pub invariant-loop-outcome : goal.invariant-loop-outcome
invariant-loop-outcome l = l.text ≡ l.initial.text ++ flat_map segment_words (take l.outcome-index l.outcomes)
