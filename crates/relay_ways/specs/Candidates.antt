-- What a node would send because of octets by each target and for each return cause, whether some marking allows it or not.
use Rattle.std.specs.Prelude.{ℕ, ◌+◌, ◌==◌, if◌then◌else◌, List, [], ◌∷◌, map, Option, Some, None}
use Rattle.std.specs.List.{flat_map, list_any}
use Rattle.sccp_address.specs.declared.address.Address.{Address}
use Rattle.sccp_message.specs.declared.message.Message.{Message}
use Rattle.sccp_base.specs.declared.mark.Mark.{Mark}
use Rattle.plan_rules.specs.declared.target.Target.{Target}
use Rattle.plan_model.specs.declared.node.Node.{Node}
use Rattle.plan_model.specs.declared.spot.Spot.{Spot}
use Rattle.plan_model.specs.declared.hop.Step.{Step}
use Rattle.plan_model.specs.declared.hop.Step.TheVariants.{Sent, Ended as StepEnded, Blocked, NoRow, Overgrown}
use Rattle.plan_model.specs.Network.{Network}
use Rattle.plan_model.specs.Steps.{led, cause_of}
use Rattle.sccp_scrc.specs.Arriving.{after_step, point_of, subsystems_of}
use Rattle.sccp_scrc.specs.Returning.{returned}
use Rattle.sccp_scrc.specs.Rewriting.{one_less, to_relay, to_place}
use Rattle.sccp_scrc.specs.Unitdata.{redirected, octets_of}
use Rattle.sccp_scrc.specs.declared.arrival.Arrival.{Arrival}
use Rattle.sccp_scrc.specs.declared.arrival.Arrival.TheVariants.{Relayed, Ended, Local, Returned, Connection, Management, Undecodable}
use Rattle.sccp_scrc.specs.declared.way.Way.{Way}
use Rattle.sccp_scrc.specs.declared.way.Way.TheVariants.{Direct, Shut, ByTitle}
use Rattle.relay_ways.specs.Outcomes.{Outcome, outcomes}
use Rattle.relay_ways.specs.Turns.{turns_of}
use Rattle.relay_ways.specs.declared.candidate.Candidate.{Candidate}

abbrev pub candidate : Option ℕ → ℕ → List ℕ → Candidate
candidate cause to octets = record { cause = cause; to = to; octets = octets }

-- what goes on, as a service message with that cause or as the message itself
abbrev pub going_on : Option ℕ → Arrival → List Candidate
going_on cause (Relayed pc octets) = candidate cause pc octets ∷ []
going_on cause (Ended pc ssn octets) = candidate cause pc octets ∷ []
going_on cause (Local ssn m) = []
going_on cause (Returned other marks service) = []
going_on cause (Connection m) = []
going_on cause (Management m) = []
going_on cause (Undecodable fault) = []

abbrev pub outcome_going_on : Option ℕ → Outcome → List Candidate
outcome_going_on cause o = going_on cause o.arrival

-- a service message goes to a point, or by what becomes of its title at the node itself; no way is shut in an outcome
abbrev pub served : Network → ℕ → ℕ → List ℕ → Way → List Candidate
served plan node cause octets (Direct pc) = candidate (Some cause) pc octets ∷ []
served plan node cause octets (Shut mark) = []
served plan node cause octets ByTitle = flat_map (outcome_going_on (Some cause)) (outcomes plan node (point_of plan node) octets)

-- those of an arrival that an outcome has
abbrev pub candidates_of : Network → ℕ → Arrival → List Candidate
candidates_of plan node (Relayed pc octets) = candidate None pc octets ∷ []
candidates_of plan node (Ended pc ssn octets) = candidate None pc octets ∷ []
candidates_of plan node (Local ssn m) = []
candidates_of plan node (Returned cause marks None) = []
candidates_of plan node (Returned cause marks (Some service)) = served plan node cause service.octets service.way
candidates_of plan node (Connection m) = []
candidates_of plan node (Management m) = []
candidates_of plan node (Undecodable fault) = []

abbrev pub outcome_candidates : Network → ℕ → Outcome → List Candidate
outcome_candidates plan node o = candidates_of plan node o.arrival

-- what the node would send because of octets from that origin
unfoldable pub candidates : Network → ℕ → ℕ → List ℕ → List Candidate
candidates plan node origin b = flat_map (outcome_candidates plan node) (outcomes plan node origin b)

-- ---- the same by steps, as the code goes over them

-- the steps of a spot over all markings
abbrev pub turn_steps : Network → Spot → List Step
turn_steps plan spot = map (λ t. t.step) (turns_of plan spot)

-- the step of each target if it is taken, from a place on
abbrev pub taken_steps : Network → Node → Spot → ℕ → List Target → List Step
taken_steps plan node spot place [] = []
taken_steps plan node spot place (t ∷ ts) = led plan node spot place t ∷ taken_steps plan node spot (place + 1) ts

-- the step if all targets are closed, and the last one by this mark
abbrev pub closed_step : Mark → Step
closed_step m = Blocked (cause_of m) []

-- what would be sent if a step is made of a message
abbrev pub step_candidates : Network → ℕ → ℕ → Message → Address → Step → List Candidate
step_candidates plan node origin m a s = candidates_of plan node (after_step plan node [] origin m a s)

-- what would go on if a step is made of a service message at the node itself
abbrev pub step_going_on : Network → ℕ → ℕ → Message → Address → Step → List Candidate
step_going_on plan node cause m a s = going_on (Some cause) (after_step plan node [] (point_of plan node) m a s)

-- a message that goes to a point, if it can be written
abbrev pub if_written : Option ℕ → ℕ → Option (List ℕ) → List Candidate
if_written cause to None = []
if_written cause to (Some octets) = candidate cause to octets ∷ []

-- the same of the message itself, which is returned for cause 9 otherwise
abbrev pub onward_or_returned : Network → ℕ → ℕ → Message → ℕ → Option (List ℕ) → List Candidate
onward_or_returned plan node origin m to (Some octets) = candidate None to octets ∷ []
onward_or_returned plan node origin m to None = candidates_of plan node (returned [] origin m 9 [])

abbrev pub written_or_returned : Network → ℕ → ℕ → Message → ℕ → Address → List Candidate
written_or_returned plan node origin m to called = onward_or_returned plan node origin m to (octets_of (redirected called one_less m))

-- the point to which a step leads, and the called address that the message goes on with; none if the message stays
abbrev pub toward : ℕ → Address → Option (ℕ × Address)
toward pc a = Some (pc, a)

abbrev pub onward : Network → ℕ → Address → Step → Option (ℕ × Address)
onward plan node a (Sent next target) = toward (point_of plan next.node) (to_relay a next)
onward plan node a (StepEnded pc ssn target) = if pc == point_of plan node then None else toward pc (to_place a ssn)
onward plan node a (Blocked cause marks) = None
onward plan node a (NoRow cause) = None
onward plan node a Overgrown = None

-- the cause for which a step returns the message
abbrev pub returns : Step → Option ℕ
returns (Sent next target) = None
returns (StepEnded pc ssn target) = None
returns (Blocked cause marks) = Some cause
returns (NoRow cause) = Some cause
returns Overgrown = Some 9

-- the cause for which a message that is routed on this subsystem number may be returned; none for management
abbrev pub cause_at : Network → ℕ → Option ℕ → Option ℕ
cause_at plan node None = Some 4
cause_at plan node (Some ssn) =
    if ssn == 1 then None else if list_any (λ own. own == ssn) (subsystems_of plan node) then Some 3 else Some 4

-- what would be sent if the message is returned for a cause
abbrev pub returned_by : Network → ℕ → ℕ → Message → Option ℕ → List Candidate
returned_by plan node origin m None = []
returned_by plan node origin m (Some cause) = candidates_of plan node (returned [] origin m cause [])
