use Rattle.std.proofs.Common.{◌≡◌, ◌+◌, ◌-◌, arith, refl}
use Rattle.std.proofs.lemmas.Nat.{and_mask}
use Rattle.sccp_address.proofs.reading.is_set.Goals as goal

pub returns : goal.returns
returns c =
    let one : c.args.place - c.args.place + 1 ≡ 1 = omega arith in
    rw (one, and_mask _ 1) refl
