use Rattle.std.proofs.Common.{◌<◌, ◌*◌, length, arith}
use Rattle.sccp_base.proofs.Halves.{packed_more}
use Rattle.sccp_base.proofs.digits.Digits.pack.Goals as goal

pub loop-i-preserved : goal.loop-i-preserved
loop-i-preserved c =
    let inside : 2 * c.loop-i.i < length c.as_slice-digits.result.now = omega arith in
    rw (c.in_ok-push.ensures.items, c.loop-i.invariant, c.octet_at.ensures) (packed_more c.as_slice-digits.result.now c.loop-i.i inside)
