-- What the relays of a replay hold prohibited after some first lines of its trace.
use Rattle.std.specs.Prelude.{ℕ, List, map, Some, fold, slice_get, slice_set}
use Rattle.std.specs.Option.{option_map_or}
use Rattle.plan_model.specs.Network.{Network}
use Rattle.relay_net.specs.States.{State, first_states}
use Rattle.relay_net.specs.declared.happening.Happening.{Happening}
use Rattle.relay_net.specs.declared.happening.Happening.TheVariants.{Managed, Connected, Delivered}
use Rattle.sccp_base.specs.declared.mark.Mark.{Mark}
use Rattle.sccp_manage.specs.Managing.{Management, managed}
use Rattle.sccp_manage.specs.declared.event.Event.{Event}
use Rattle.sccp_report.specs.Roles.{Role, alone, role_of}
use Rattle.trace_text.specs.declared.line.Numbered.{Numbered}

-- the management of each node, in the order of the plan
abbrev pub managers_of : List State → List Management
managers_of states = map (λ s. s.manager) states

-- an event at the management of the node at a place
abbrev pub managed_at : List Management → ℕ → Event → List Management
managed_at managers node event = option_map_or (λ m. slice_set managers node (managed m event)) (slice_get managers node) managers

-- only management holds something prohibited: what happens at connections and segments changes nothing of it
abbrev pub after_happening : List Management → ℕ → Happening → List Management
after_happening managers node (Managed event) = managed_at managers node event
after_happening managers node (Connected origin message) = managers
after_happening managers node (Delivered message) = managers

-- An event and a status message are for management, and stand alone. Other lines change nothing of what is held.
abbrev pub after_role : List Management → Role → List Management
after_role managers (alone (Some d)) = after_happening managers d.node d.what
after_role managers role = managers

abbrev pub after_line : Network → List Management → Numbered → List Management
after_line first managers line = after_role managers (role_of first line.line)

-- at the start nothing is prohibited
abbrev pub managers_after : Network → List Numbered → List Management
managers_after first lines = fold (after_line first) (managers_of (first_states first)) lines

-- what each relay holds prohibited after these lines
abbrev pub held_after : Network → List Numbered → List (List Mark)
held_after first lines = map (λ m. m.marking) (managers_after first lines)
