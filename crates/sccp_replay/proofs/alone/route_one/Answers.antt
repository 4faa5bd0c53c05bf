use Rattle.std.proofs.Common.{◌∙◌, ap}
use Rattle.relay_net.specs.Journeys.{journey}
use Rattle.relay_net.specs.States.{markings_of}
use Rattle.sccp_replay.specs.Incoming.{incoming_in}
use Rattle.sccp_replay.specs.Replay.{plan_at}
use Rattle.sccp_replay.specs.Routings.{routing, standing}
use Rattle.sccp_replay.proofs.ReplayerLemmas.{is_routed}
use Rattle.sccp_replay.proofs.alone.route_one.Goals as goal

pub returns-clause-routed : goal.returns-clause-routed
returns-clause-routed c =
    let at = standing (routing 1 c.args.first.now c.args.later.now) c.args.states.now in
    let x = c.args.incoming.now in
    let marks = markings_of c.args.states.now in
    is_routed at marks (incoming_in x)
    (record { number = c.args.number; journey = c.in_ok-journey.journey }) c.requires.plans c.requires.entry
    (c.in_ok-journey.ensures.same
    ∙ ap (λ p. journey p marks x.entry x.origin c.as_slice-octets.result.now) c.plan_of_number-accepted.ensures
    ∙ ap (λ o. journey (plan_at at c.args.number) marks x.entry x.origin o) c.as_slice-octets.ensures)
