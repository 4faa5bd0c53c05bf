use Rattle.std.proofs.Common.{sym, ap, length, arith}
use Rattle.relay_net.proofs.Places.{stay_in_place, states_applied, outcomes_applied}
use Rattle.relay_net.proofs.net.Net.apply.Goals as goal

pub invariant_of-self : goal.invariant_of-self
invariant_of-self c =
    stay_in_place c.args.plan.now c.self.inside.states.items c.from.result c.index_mut.result.now c.happen.new.self c.args.what
    c.happen.result c.self.invariant
    (omega (arith, c.requires.node, ap length c.self.view_is, c.from.ensures)) c.index_mut.ensures.value c.happen.ensures.state
    c.happen.ensures.err

pub returns-clause-states : goal.returns-clause-states
returns-clause-states c =
    let states = c.self.inside.states.items in
    rw (sym c.self.view_is, sym c.from.ensures)
    (states_applied c.args.plan.now states c.from.result c.index_mut.result.now c.happen.new.self c.args.what c.happen.result
    c.self.invariant
    (omega (arith, c.requires.node, ap length c.self.view_is, c.from.ensures)) c.index_mut.ensures.value c.happen.ensures.state)

pub returns-clause-outcomes : goal.returns-clause-outcomes
returns-clause-outcomes c =
    let states = c.self.inside.states.items in
    rw (sym c.self.view_is, sym c.from.ensures)
    (outcomes_applied c.args.plan.now states c.from.result c.index_mut.result.now c.args.what c.happen.result c.self.invariant
    (omega (arith, c.requires.node, ap length c.self.view_is, c.from.ensures)) c.index_mut.ensures.value c.happen.ensures.outcomes)
