use Rattle.std.proofs.Common.{◌≡◌}
use Rattle.std.specs.Prelude.{map}
use Rattle.std.specs.List.{range_with_len}
use Rattle.sccp_message.specs.Survey.{fault_of_cut}
use Rattle.sccp_message.proofs.surveying.faults.Given as goal

abbrev pub invariant-loop-n : goal.invariant-loop-n
invariant-loop-n l = l.faults ≡ map (fault_of_cut l.octets) (range_with_len 0 l.n)
