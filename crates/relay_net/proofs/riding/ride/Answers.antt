use Rattle.std.specs.Prelude.{map}
use Rattle.std.proofs.Common.{◌<◌, arith}
use Rattle.relay_net.proofs.Passages.{rode, further, next_within}
use Rattle.relay_net.proofs.riding.ride.Goals as goal

pub loop-left-preserved : goal.loop-left-preserved
loop-left-preserved g c =
    let plan = c.args.plan.now in
    let states = map g.S.HoldsMarking.held c.args.states.now in
    let before = c.loop-left.message in
    let after = c.pass.new.message in
    let lt : 0 < c.loop-left.left = omega (arith, c.loop-left-test.true) in
    record {
      node = next_within plan states c.loop-left.node before after c.in_ok-next.field-0 c.in-On.next c.in_ok-next.ensures.value c.in-On.is;
      again = c.in_ok-next.ensures.again;
      goes = further c.args.path.now c.loop-left.path c.push.new.self _ _ _ c.loop-left.invariant.goes
          (rode plan states c.loop-left.left c.loop-left.node c.loop-left.origin before after c.in_ok-next.field-0 c.in-On.next
          c.point_of-origin.result c.loop-left.path c.push.new.self c.in_ok-next.ensures.plan lt c.loop-left.invariant.again
          c.in_ok-next.ensures.value c.in-On.is c.point_of-origin.ensures c.in_ok-push-in-On.ensures.ok);
    }
