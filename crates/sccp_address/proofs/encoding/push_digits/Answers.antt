use Rattle.std.proofs.Common.{◌<◌, ◌*◌, ◌++◌, List, ℕ, length, take, ap, ◌∙◌, append_assoc, arith}
use Rattle.sccp_base.specs.Bcd.{packed}
use Rattle.sccp_base.proofs.Halves.{packed_more}
use Rattle.sccp_address.proofs.encoding.push_digits.Goals as goal

pub loop-i-preserved : goal.loop-i-preserved
loop-i-preserved c =
    let digits = c.args.digits.now in
    let front : List ℕ = c.args.octets.now.items in
    let inside : 2 * c.loop-i.i < length digits = omega arith in
    rw (c.in_ok-push.ensures.items, c.loop-i.invariant, c.octet_at.ensures)
    (append_assoc front (packed (take (2 * c.loop-i.i) digits)) _ ∙ ap (λ (x : List ℕ). front ++ x) (packed_more digits c.loop-i.i inside))
