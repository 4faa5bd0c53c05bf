-- What a running relay keeps besides its sections, and what it is after a message.
use Rattle.std.specs.Prelude.{ℕ, List, [], ◌∷◌, ◌++◌, flat_map}
use Rattle.sccp_message.specs.declared.message.Message.{Message}
use Rattle.sccp_couple.specs.declared.section.Section.{Section}
use Rattle.sccp_couple.specs.declared.way.Way.{Way}
use Rattle.sccp_couple.specs.Events.{Event}
use Rattle.sccp_couple.specs.Coupling.{coupled}
use Rattle.sccp_couple.specs.Runs.{made}
use Rattle.couple_chain.specs.declared.passed.Passed.{Passed}
use Rattle.couple_chain.specs.Line.{both_of}
use Rattle.couple_chain.specs.Logged.{log_after}

-- its place in the plan, its sections, the DT1 that its sections passed on, and the own references that it gave
pub record Relaying : Type 0 where
  pub node : ℕ
  pub sections : List Section
  pub passed : List Passed
  pub given : List ℕ

-- a message from a point, and what the relay makes of it if it is a connection request
abbrev pub event_with : ℕ → Message → Way → Event
event_with origin message way = record { origin = origin; message = message; way = way }

-- a relay to which nothing has happened
abbrev pub first_relay : ℕ → Relaying
first_relay node = record { node = node; sections = []; passed = []; given = [] }

-- a relay after one event
abbrev pub relay_after : Relaying → Event → Relaying
relay_after r event = record {
  node = r.node;
  sections = (coupled r.sections event).sections;
  passed = log_after r.sections event r.passed;
  given = r.given ++ flat_map both_of (made r.sections event);
}

-- a relay after a list of events
abbrev pub relay_run : Relaying → List Event → Relaying
relay_run r [] = r
relay_run r (event ∷ events) = relay_run (relay_after r event) events
