use Rattle.std.proofs.Common.{drop, map}
use Rattle.relay_net.specs.States.{markings_of}
use Rattle.sccp_replay.specs.Replayers.{settled_in}
use Rattle.sccp_replay.specs.Routings.{routing, standing}
use Rattle.sccp_replay.proofs.CrewSteps.{RoutedSoFar}
use Rattle.sccp_replay.proofs.alone.route_all.Given as goal

abbrev pub invariant-loop-one : goal.invariant-loop-one
invariant-loop-one l = RoutedSoFar (standing (routing 1 l.fn.first l.fn.later) l.fn.states) (markings_of l.fn.states)
    (map settled_in l.fn.settled) (map settled_in (drop l.one-index l.settled)) l.served
