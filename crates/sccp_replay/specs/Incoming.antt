-- A message that arrives at a node, as the code keeps it.
use Rattle.relay_net.specs.Batches.{Incoming}
use Rattle.sccp_report.specs.Roles.{incoming}
use Rattle.sccp_replay.specs.declared.incoming as code

abbrev pub incoming_in : code.Incoming.Incoming → Incoming
incoming_in x = incoming x.entry x.origin x.octets
