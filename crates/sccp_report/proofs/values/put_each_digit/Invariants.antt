use Rattle.std.proofs.Common.{◌≡◌, ◌++◌, map, slice_index, take}
use Rattle.hex.specs.Hex.{upper_digits}
use Rattle.sccp_report.proofs.values.put_each_digit.Given as goal

abbrev pub invariant-loop-digit : goal.invariant-loop-digit
invariant-loop-digit l = l.text ≡ l.initial.text ++ map (slice_index upper_digits) (take l.digit-index l.digit-items)
