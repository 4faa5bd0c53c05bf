use Rattle.std.proofs.Common.{[], ap, arith, length, length-append, take}
use Rattle.std.proofs.lemmas.List.{length-take}
use Rattle.plan_covers.proofs.cover_key.front.Goals as goal

pub unreachable-requires : goal.unreachable-requires
unreachable-requires c =
    c.in-None.ensures
    (omega (
      arith,
      c.len.ensures.limit,
      ap length c.as_slice.ensures.value,
      length-append (take c.args.count c.as_slice.result.now) [],
      length-take c.args.count c.as_slice.result.now,
    ))
