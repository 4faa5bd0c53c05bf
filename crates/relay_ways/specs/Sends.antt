-- What goes from a node to another point because of an arrival.
use Rattle.std.specs.Prelude.{ℕ, List, Option, Some, None}
use Rattle.std.specs.Option.{option_and_then}
use Rattle.sccp_base.specs.declared.mark.Mark.{Mark}
use Rattle.plan_model.specs.Network.{Network}
use Rattle.sccp_scrc.specs.Arriving.{arrival, point_of}
use Rattle.sccp_scrc.specs.declared.arrival.Arrival.{Arrival}
use Rattle.sccp_scrc.specs.declared.arrival.Arrival.TheVariants.{Relayed, Ended, Local, Returned, Connection, Management, Undecodable}
use Rattle.sccp_scrc.specs.declared.way.Way.{Way}
use Rattle.sccp_scrc.specs.declared.way.Way.TheVariants.{Direct, Shut, ByTitle}
use Rattle.relay_ways.specs.declared.way.Sending.{Sending}

abbrev pub sending : ℕ → List ℕ → Sending
sending to octets = record { to = to; octets = octets }

-- what is relayed, or goes to its destination
abbrev pub forwarded : Arrival → Option Sending
forwarded (Relayed pc octets) = Some (sending pc octets)
forwarded (Ended pc ssn octets) = Some (sending pc octets)
forwarded (Local ssn m) = None
forwarded (Returned cause marks service) = None
forwarded (Connection m) = None
forwarded (Management m) = None
forwarded (Undecodable fault) = None

-- A service message goes to a point, if the way is not shut. One that goes by title is routed at the node that makes it, and
-- is not returned again.
abbrev pub service_sent : Network → ℕ → List Mark → List ℕ → Way → Option Sending
service_sent plan node marking octets (Direct pc) = Some (sending pc octets)
service_sent plan node marking octets (Shut mark) = None
service_sent plan node marking octets ByTitle = forwarded (arrival plan node marking (point_of plan node) octets)

abbrev pub sent_of : Network → ℕ → List Mark → Arrival → Option Sending
sent_of plan node marking (Relayed pc octets) = Some (sending pc octets)
sent_of plan node marking (Ended pc ssn octets) = Some (sending pc octets)
sent_of plan node marking (Local ssn m) = None
sent_of plan node marking (Returned cause marks service) = option_and_then (λ s. service_sent plan node marking s.octets s.way) service
sent_of plan node marking (Connection m) = None
sent_of plan node marking (Management m) = None
sent_of plan node marking (Undecodable fault) = None

-- what the node sends under this marking because of octets from that origin
abbrev pub sends : Network → ℕ → List Mark → ℕ → List ℕ → Option Sending
sends plan node marking origin b = sent_of plan node marking (arrival plan node marking origin b)
