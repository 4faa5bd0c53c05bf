use Rattle.std.proofs.Common.{map, subst}
use Rattle.std.proofs.lemmas.List.{drop_all}
use Rattle.relay_net.specs.States.{markings_of}
use Rattle.sccp_replay.specs.Replay.{Standing}
use Rattle.sccp_replay.specs.Replayers.{settled_in}
use Rattle.sccp_replay.specs.Routings.{routing, standing}
use Rattle.sccp_replay.proofs.CrewSteps.{RoutedSoFar, all_routed}
use Rattle.sccp_replay.proofs.alone.route_all.Goals as goal

pub returns-clause-routed : goal.returns-clause-routed
returns-clause-routed c =
    let at : Standing = standing (routing 1 c.args.first.now c.args.later.now) c.args.states.now in
    (all_routed at (markings_of c.args.states.now) (map settled_in c.args.settled.now) c.loop-one.served
    (subst (λ l. RoutedSoFar at (markings_of c.args.states.now) (map settled_in c.args.settled.now) (map settled_in l) c.loop-one.served)
    (drop_all c.loop-one.one-index c.args.settled.now c.loop-one-test.false) c.loop-one.invariant)).0
