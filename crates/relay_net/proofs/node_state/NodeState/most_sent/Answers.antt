use Rattle.std.proofs.Common.{length, ap, arith}
use Rattle.relay_net.specs.States.{State}
use Rattle.relay_net.proofs.Sends.{few_at_tick, few_at_up, few_at_down}
use Rattle.relay_net.proofs.node_state.NodeState.most_sent.Goals as goal

pub returns-in-Up : goal.returns-in-Up
returns-in-Up c =
    rw c.in-Up.is (omega (
      arith,
      few_at_up c.args.self.now.manager c.in-Up.field-0,
      ap
          (λ (s : State). length s.manager.concerned) c.self.view_is,
      c.self.invariant,
    ))

pub returns-in-Down : goal.returns-in-Down
returns-in-Down c =
    rw c.in-Down.is (omega (
      arith,
      few_at_down c.args.self.now.manager c.in-Down.field-0,
      ap
          (λ (s : State). length s.manager.concerned) c.self.view_is,
      c.self.invariant,
    ))

pub returns-in-Tick : goal.returns-in-Tick
returns-in-Tick c = rw c.in-Tick.is
    (omega (arith, few_at_tick c.args.self.now.manager, ap length c.marks.ensures.marks, ap length c.marking.ensures))
