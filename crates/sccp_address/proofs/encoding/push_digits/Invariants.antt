use Rattle.std.proofs.Common.{◌≡◌, ◌*◌, ◌++◌, take}
use Rattle.sccp_base.specs.Bcd.{packed}
use Rattle.sccp_address.proofs.encoding.push_digits.Given as goal

abbrev pub invariant-loop-i : goal.invariant-loop-i
invariant-loop-i l = l.octets.items ≡ l.initial.octets.items ++ packed (take (2 * l.i) l.digits)
