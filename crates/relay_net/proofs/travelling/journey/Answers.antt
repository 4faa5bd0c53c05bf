use Rattle.std.specs.Prelude.{◌≡◌, map, IfOk}
use Rattle.std.proofs.Common.{subst, arith}
use Rattle.sccp_address.proofs.Kept.{are_octets}
use Rattle.relay_net.specs.Journeys.{journey}
use Rattle.relay_net.proofs.Going.{goes_well}
use Rattle.relay_net.proofs.Counters.{cut_off}
use Rattle.relay_net.proofs.Told.{told_well, told_cut}
use Rattle.relay_net.proofs.travelling.journey.Goals as goal

pub returns-clause-goes_well : goal.returns-clause-goes_well
returns-clause-goes_well g c = λ m s covered.
    let verified = c.plan-plan.ensures.verified in
    told_well c.whole.result c.args.accepted.now.plan c.args.accepted.now.bound
    (map g.S.HoldsMarking.held c.args.states.now) c.args.entry c.args.origin c.args.octets.now m s
    (subst (λ p. IfOk c.whole.result (λ j. j ≡ journey p
    (map g.S.HoldsMarking.held c.args.states.now) c.args.entry c.args.origin c.args.octets.now)) c.plan-plan.ensures.value
    c.whole.ensures)
    (goes_well c.args.accepted.now.plan c.args.accepted.now.bound
    (map g.S.HoldsMarking.held c.args.states.now) c.args.entry c.args.origin c.args.octets.now m s
    verified.plan verified.few verified.safe (are_octets c.args.octets.now (λ i. omega (arith, c.type_inv.octets i))) covered)

pub returns-clause-cut : goal.returns-clause-cut
returns-clause-cut g c =
    told_cut c.whole.result c.args.accepted.now.plan
    (map g.S.HoldsMarking.held c.args.states.now) c.args.entry c.args.origin c.args.octets.now
    (subst (λ p. IfOk c.whole.result (λ j. j ≡ journey p
    (map g.S.HoldsMarking.held c.args.states.now) c.args.entry c.args.origin c.args.octets.now)) c.plan-plan.ensures.value
    c.whole.ensures)
    (cut_off c.args.accepted.now.plan (map g.S.HoldsMarking.held c.args.states.now) c.args.entry c.args.origin c.args.octets.now
    c.plan-plan.ensures.verified.plan (are_octets c.args.octets.now (λ i. omega (arith, c.type_inv.octets i))))
