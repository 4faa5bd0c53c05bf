use Rattle.std.specs.Prelude.{map}
use Rattle.std.proofs.Common.{◌<◌, length}
use Rattle.sccp_message.specs.Written.{message_octets}
use Rattle.sccp_scrc.specs.Passing.{ReadsAgain}
use Rattle.relay_net.specs.Journeys.{travel}
use Rattle.relay_net.specs.Riding.{GoesOn}
use Rattle.relay_net.proofs.riding.ride.Given as goal

-- the nodes so far, and then what is left of the trip, are the whole trip
abbrev pub invariant-loop-left : goal.invariant-loop-left
invariant-loop-left g l = record {
  node : l.node < length l.plan.nodes;
  again : ReadsAgain l.message;
  goes : GoesOn l.fn.path (travel l.plan (map g.S.HoldsMarking.held l.states) l.fn.leg.left l.fn.leg.node l.fn.leg.origin
      (message_octets l.fn.message)) l.path (travel l.plan (map g.S.HoldsMarking.held l.states) l.left l.node l.origin
      (message_octets l.message));
}

abbrev pub decreases-loop-left : goal.decreases-loop-left
decreases-loop-left g l = l.left
