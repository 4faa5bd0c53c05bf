-- The journey of a message from relay to relay.
use Rattle.std.specs.Prelude.{ℕ, zero, suc, List, [], ◌∷◌, Option, Some, None, is_some, if◌then◌else◌, unwrap_or, slice_get, Result, Ok}
use Rattle.std.specs.Prelude.{Err, option_map}
use Rattle.sccp_base.specs.declared.mark.Mark.{Mark}
use Rattle.sccp_message.specs.declared.message.Message.{Message}
use Rattle.sccp_message.specs.declared.fault.DecodeFault.{DecodeFault}
use Rattle.sccp_message.specs.Reading.{reading}
use Rattle.sccp_message.specs.Unitdata.{hops_of}
use Rattle.plan_model.specs.Network.{Network, node_of}
use Rattle.sccp_scrc.specs.declared.way.Way.{Way}
use Rattle.sccp_scrc.specs.declared.way.Way.TheVariants.{Direct, Shut, ByTitle}
use Rattle.sccp_scrc.specs.declared.service.Service.{Service}
use Rattle.sccp_scrc.specs.declared.arrival.Arrival.{Arrival}
use Rattle.sccp_scrc.specs.declared.arrival.Arrival.TheVariants as arrivals
use Rattle.sccp_scrc.specs.Arriving.{arrival, point_of}
use Rattle.relay_net.specs.declared.end.End.{End}
use Rattle.relay_net.specs.declared.end.End.TheVariants as ends
use Rattle.relay_net.specs.declared.back.Back.{Back}
use Rattle.relay_net.specs.declared.travelled.Journey.{Journey}

-- the nodes in order, and what becomes of the message at the last of them; none if it is cut off
pub record Trip : Type 0 where
  pub path : List ℕ
  pub last : Option Arrival

abbrev pub trip : List ℕ → Option Arrival → Trip
trip path last = record { path = path; last = last }

-- a trip with a node before it
abbrev pub after : ℕ → Trip → Trip
after node t = trip (node ∷ t.path) t.last

-- the marking that a node holds
abbrev pub held_at : List (List Mark) → ℕ → List Mark
held_at states node = unwrap_or (slice_get states node) []

-- What is relayed arrives at the node with its point code; anything else is the last arrival. The follow-up is given the
-- node, the origin and the octets.
abbrev pub onward : Network → ℕ → Arrival → (ℕ → ℕ → List ℕ → Trip) → Trip
onward plan node (arrivals.Relayed pc octets) follow = after node (follow (node_of plan.nodes pc) (point_of plan node) octets)
onward plan node x follow = trip (node ∷ []) (Some x)

-- this number of arrivals at most
abbrev pub travel : Network → List (List Mark) → ℕ → ℕ → ℕ → List ℕ → Trip
travel plan states zero node origin b = trip [] None
travel plan states (suc left) node origin b =
    onward plan node (arrival plan node (held_at states node) origin b) (λ next from octets. travel plan states left next from octets)

-- A message without a hop counter is cut off if its fourteenth arrival is relayed. One with a hop counter is not relayed at
-- its fifteenth.
abbrev pub most_arrivals : Result Message DecodeFault → ℕ
most_arrivals (Ok m) = if is_some (hops_of m) then 15 else 14
most_arrivals (Err fault) = 14

-- the trip of octets that arrive from an origin at the entry node
abbrev pub trip_of : Network → List (List Mark) → ℕ → ℕ → List ℕ → Trip
trip_of plan states entry origin b = travel plan states (most_arrivals (reading b)) entry origin b

-- how a trip ends; what is relayed is not an end
abbrev pub end_at : Arrival → End
end_at (arrivals.Relayed pc octets) = ends.Cut
end_at (arrivals.Ended pc ssn octets) = ends.Ended pc ssn octets
end_at (arrivals.Local ssn m) = ends.Local ssn m
end_at (arrivals.Returned cause marks service) = ends.Returned cause marks
end_at (arrivals.Connection m) = ends.Connection m
end_at (arrivals.Management m) = ends.Management m
end_at (arrivals.Undecodable fault) = ends.Undecodable fault

abbrev pub end_of : Option Arrival → End
end_of None = ends.Cut
end_of (Some x) = end_at x

-- the service message of a last arrival
abbrev pub service_in : Option Arrival → Option Service
service_in (Some (arrivals.Returned cause marks service)) = service
service_in x = None

-- the last node of a path after a first node
abbrev pub last_node : ℕ → List ℕ → ℕ
last_node first [] = first
last_node first (node ∷ nodes) = last_node node nodes

-- the way back of a service message: one that goes by title arrives at the node that returns it, with that node as origin
abbrev pub back_by : Network → List (List Mark) → ℕ → List ℕ → Way → Back
back_by plan states node octets ByTitle =
    let t = trip_of plan states node (point_of plan node) octets in
    record { octets = octets; way = ByTitle; path = t.path; end = Some (end_of t.last) }
back_by plan states node octets (Direct pc) = record { octets = octets; way = Direct pc; path = []; end = None }
back_by plan states node octets (Shut mark) = record { octets = octets; way = Shut mark; path = []; end = None }

-- the way back of the service message, if there is one
abbrev pub back_of : Network → List (List Mark) → ℕ → Option Service → Option Back
back_of plan states node service = option_map (λ s. back_by plan states node s.octets s.way) service

-- the journey of a trip, with the way back of its service message
abbrev pub journey_of : Network → List (List Mark) → Trip → Journey
journey_of plan states t = record {
  path = t.path;
  end = end_of t.last;
  back = back_of plan states (last_node 0 t.path)
      (service_in t.last);
}

-- the journey of octets that arrive from an origin at the entry node
abbrev pub journey : Network → List (List Mark) → ℕ → ℕ → List ℕ → Journey
journey plan states entry origin b = journey_of plan states (trip_of plan states entry origin b)
