-- What the nodes keep, and what happens at one of them.
use Rattle.std.specs.Prelude.{◌≡◌, ℕ, suc, List, [], ◌∷◌, map, Option, Some, None, Result, Ok, Err, slice_get, slice_set}
use Rattle.sccp_base.specs.declared.mark.Mark.{Mark}
use Rattle.sccp_message.specs.Written.{Sound}
use Rattle.sccp_manage.specs.Managing.{Management, managed, row}
use Rattle.sccp_manage.specs.declared.event.Event.{Event}
use Rattle.sccp_manage.specs.declared.sent.Sent.{Sent}
use Rattle.sccp_segment.specs.Pooling as pooling
use Rattle.sccp_segment.specs.Segments.{arrival_of}
use Rattle.sccp_segment.specs.declared.arrival.Arrival.{Arrival}
use Rattle.sccp_segment.specs.declared.run.Run.{Run}
use Rattle.sccp_segment.specs.declared.pool_fault.PoolFault.{PoolFault}
use Rattle.sccp_segment.specs.declared.taken.Taken.{Taken}
use Rattle.sccp_couple.specs.Events as coupling
use Rattle.sccp_couple.specs.Coupling.{coupled}
use Rattle.sccp_couple.specs.Sending.{written_sent, HasShortParts}
use Rattle.sccp_couple.specs.Ways.{event_of}
use Rattle.sccp_couple.specs.declared.section.Section.{Section}
use Rattle.plan_model.specs.declared.node.Node.{Node}
use Rattle.plan_model.specs.Network.{Network}
use Rattle.relay_net.specs.declared.happening.Happening.{Happening}
use Rattle.relay_net.specs.declared.happening.Happening.TheVariants as happenings
use Rattle.relay_net.specs.declared.outcome.Outcome.{Outcome}
use Rattle.relay_net.specs.declared.outcome.Outcome.TheVariants as outcomes

-- What a node keeps: its place in the plan, its management, its connection sections, and the messages of which segments have
-- arrived.
pub record State : Type 0 where
  pub node : ℕ
  pub manager : Management
  pub sections : List Section
  pub runs : List Run

-- at the start nothing is prohibited, connected or under way
abbrev pub first_state : ℕ → Node → State
first_state place node =
    record {
      node = place;
      manager = record
          { own = node.pc; subsystems = node.subsystems; concerned = node.concerned; marking = [] };
      sections = [];
      runs = [];
    }

abbrev pub first_states_from : ℕ → List Node → List State
first_states_from place [] = []
first_states_from place (node ∷ nodes) = first_state place node ∷ first_states_from (suc place) nodes

abbrev pub first_states : Network → List State
first_states plan = first_states_from 0 plan.nodes

-- what a node holds prohibited
abbrev pub marking_of : State → List Mark
marking_of s = s.manager.marking

abbrev pub markings_of : List State → List (List Mark)
markings_of states = map marking_of states

-- each state is that of the node at its place
abbrev pub AreInPlace : List State → Type 0
AreInPlace states = (place : ℕ) (s : State) → slice_get states place ≡ Some s → s.node ≡ place

-- ---- what happens at one node

-- A message for the coupling has short parts, and one that is delivered is sound. A message that was read is both.
abbrev pub CanHappen : Happening → Type 0
CanHappen (happenings.Managed event) = Unit {0}
CanHappen (happenings.Connected origin message) = HasShortParts message
CanHappen (happenings.Delivered message) = Sound message

-- a node afterwards, and the outcomes of what happened, in order
pub record Happened : Type 0 where
  pub state : State
  pub outcomes : List Outcome

-- only management changes, by the row of the event
abbrev pub after_managed : State → Event → Happened
after_managed s event = record {
  state = record s { manager = managed s.manager event };
  outcomes = map outcomes.Sent
      (row s.manager event).sends;
}

-- only the sections change
abbrev pub after_coupled : State → coupling.Outcome → Happened
after_coupled s o = record { state = record s { sections = o.sections }; outcomes = map outcomes.Sent (map written_sent o.sent) }

-- only the messages that are put together from segments change
abbrev pub pool_outcome : Result Taken PoolFault → Outcome
pool_outcome (Ok taken) = outcomes.Segment taken
pool_outcome (Err fault) = outcomes.PoolFull

abbrev pub after_pooled : State → pooling.Outcome → Happened
after_pooled s o = record { state = record s { runs = o.runs }; outcomes = pool_outcome o.answer ∷ [] }

-- a message that is not a segment leaves all as it is
abbrev pub after_delivered : State → Option Arrival → Happened
after_delivered s None = record { state = s; outcomes = [] }
after_delivered s (Some a) = after_pooled s (pooling.took s.runs a.key a.segment)

-- what happens at a node at a place of the plan
abbrev pub happened : Network → ℕ → State → Happening → Happened
happened plan node s (happenings.Managed event) = after_managed s event
happened plan node s (happenings.Connected origin message) =
    after_coupled s (coupled s.sections (event_of plan node (marking_of s) origin message))
happened plan node s (happenings.Delivered message) = after_delivered s (arrival_of message)

-- ---- all nodes afterwards

pub record Applied : Type 0 where
  pub states : List State
  pub outcomes : List Outcome

abbrev pub nothing_at : List State → Applied
nothing_at states = record { states = states; outcomes = [] }

abbrev pub applied_to : List State → ℕ → Happened → Applied
applied_to states node h = record { states = slice_set states node h.state; outcomes = h.outcomes }

abbrev pub applied_at : Network → List State → ℕ → Happening → Option State → Applied
applied_at plan states node what None = nothing_at states
applied_at plan states node what (Some s) = applied_to states node (happened plan node s what)

-- only the named node's state changes
abbrev pub applied : Network → List State → ℕ → Happening → Applied
applied plan states node what = applied_at plan states node what (slice_get states node)
