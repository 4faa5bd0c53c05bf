use Rattle.std.proofs.Common.{sym, ap, length, [], arith}
use Rattle.plan_model.specs.Network.{network}
use Rattle.relay_net.specs.declared.happening.Happening.TheVariants.{Delivered}
use Rattle.relay_net.proofs.Places.{stay_in_place, states_applied, outcomes_applied}
use Rattle.relay_net.proofs.net.Net.deliver.Goals as goal

-- Delivery does not depend on the plan.
pub invariant_of-self : goal.invariant_of-self
invariant_of-self c =
    stay_in_place (network [] []) c.self.inside.states.items c.from.result c.index_mut.result.now c.receive.new.self
    (Delivered c.args.message.now) c.receive.result c.self.invariant
    (omega (arith, c.requires.node, ap length c.self.view_is, c.from.ensures)) c.index_mut.ensures.value c.receive.ensures.state
    c.receive.ensures.err

pub returns-clause-states : goal.returns-clause-states
returns-clause-states c = λ plan.
    rw (sym c.self.view_is, sym c.from.ensures)
    (states_applied plan c.self.inside.states.items c.from.result c.index_mut.result.now c.receive.new.self
    (Delivered c.args.message.now) c.receive.result c.self.invariant
    (omega (arith, c.requires.node, ap length c.self.view_is, c.from.ensures)) c.index_mut.ensures.value c.receive.ensures.state)

pub returns-clause-outcomes : goal.returns-clause-outcomes
returns-clause-outcomes c = λ plan.
    rw (sym c.self.view_is, sym c.from.ensures)
    (outcomes_applied plan c.self.inside.states.items c.from.result c.index_mut.result.now
    (Delivered c.args.message.now) c.receive.result c.self.invariant
    (omega (arith, c.requires.node, ap length c.self.view_is, c.from.ensures)) c.index_mut.ensures.value c.receive.ensures.outcomes)
