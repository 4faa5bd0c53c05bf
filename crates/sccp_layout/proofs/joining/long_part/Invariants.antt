use Rattle.std.proofs.Common.{◌≡◌, drop}
use Rattle.sccp_layout.specs.Joining.{first_long}
use Rattle.sccp_layout.proofs.joining.long_part.Given as goal

abbrev pub invariant-loop-i : goal.invariant-loop-i
invariant-loop-i l = first_long l.layout l.i (drop l.i l.variable) l.params ≡ first_long l.layout 0 l.variable l.params
