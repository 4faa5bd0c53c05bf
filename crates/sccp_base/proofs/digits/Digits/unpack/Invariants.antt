use Rattle.std.proofs.Common.{◌≡◌, take}
use Rattle.sccp_base.specs.Bcd.{halves}
use Rattle.sccp_base.proofs.digits.Digits.unpack.Given as goal

abbrev pub invariant-loop-place : goal.invariant-loop-place
invariant-loop-place l = l.digits ≡ take l.place (halves l.octets)
