use Rattle.std.proofs.Common.{ap, length, arith}
use Rattle.relay_net.proofs.Places.{all_in_place}
use Rattle.relay_net.proofs.net.Net.new.Goals as goal

pub invariant_of-result : goal.invariant_of-result
invariant_of-result c =
    all_in_place c.loop-place.states.items c.loop-place.place c.args.plan.now.nodes
    (omega (
      arith,
      c.loop-place-test.false,
      c.loop-place.auto.place-end,
      ap length c.as_slice-node-items.ensures,
      ap length c.nodes.ensures.value,
    ))
    c.loop-place.invariant
