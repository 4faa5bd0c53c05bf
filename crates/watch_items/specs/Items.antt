-- The items of a text: messages of SCCP that were captured between two points, or what is said of a line without one.
use Rattle.std.specs.Prelude.{◌≡◌, ℕ, ◌+◌, ◌==◌, nat_lt, if◌then◌else◌, List, [], ◌∷◌, length, Option, Some, None, Result, Ok, Err}
use Rattle.m3ua_data.specs.Carried.{Payload, carried_of}
use Rattle.m3ua_data.specs.Reading.{reading}
use Rattle.m3ua_data.specs.declared.fault.DataFault.{DataFault}
use Rattle.m3ua_data.specs.declared.fault.DataFault.TheVariants.{NoData}
use Rattle.m3ua_data.specs.declared.tagged.Tagged.{Tagged}
use Rattle.m3ua_trace.specs.Imported.{fault_number, sccp}
use Rattle.m3ua_trace.specs.Traces.{octets_of_lines}
use Rattle.m3ua_trace.specs.declared.import_error.ImportError.{ImportError}
use Rattle.m3ua_trace.specs.declared.import_error.ImportError.TheVariants as errors
use Rattle.relay_watch.specs.declared.event.Event.{Event}
use Rattle.watch_items.specs.declared.item.Item.{Item}
use Rattle.watch_items.specs.declared.item.Item.TheVariants.{Seen, Refused, OtherPoint, NoOctets, Nothing, Captured, Note}
use Rattle.trace_text.specs.Lines.{lines_of}
use Rattle.trace_text.specs.declared.line_fault.LineFault.{LineFault}

-- ---- one message, by the number of its line

-- a number that is a point code
abbrev pub point : ℕ → Option ℕ
point value = if nat_lt value 16384 then Some value else None

-- a message of SCCP that goes from one point to another
abbrev pub event : ℕ → ℕ → ℕ → List ℕ → Event
event number origin destination octets = record { number = number; origin = origin; destination = destination; octets = octets }

-- by its destination
abbrev pub for_destination : ℕ → ℕ → List ℕ → Option ℕ → Item
for_destination number origin octets None = OtherPoint number
for_destination number origin octets (Some destination) =
    if length octets == 0 then NoOctets number else Seen (event number origin destination octets)

-- by its origin
abbrev pub from_origin : ℕ → Payload → Option ℕ → Item
from_origin number p None = OtherPoint number
from_origin number p (Some origin) = for_destination number origin p.payload (point p.destination)

-- by what the message carries, in the order of testing
abbrev pub from_payload : ℕ → Payload → Item
from_payload number p = if p.service == sccp then from_origin number p (point p.origin) else Nothing

-- sound parameters always carry protocol data, so the first case never arises
abbrev pub from_carried : ℕ → Option Payload → Item
from_carried number None = Refused number (fault_number NoData)
from_carried number (Some p) = from_payload number p

-- by what reading gives
abbrev pub from_reading : ℕ → Result (List Tagged) DataFault → Item
from_reading number (Ok params) = from_carried number (carried_of params)
from_reading number (Err fault) = Refused number (fault_number fault)

-- what a line gives whose digits are these octets; an empty line has none
abbrev pub item_of : ℕ → List ℕ → Item
item_of number octets = if length octets == 0 then Nothing else from_reading number (reading octets)

-- ---- all lines

-- what lines with these octets give, from that number on
unfoldable pub items_from : ℕ → List (List ℕ) → List Item
items_from number [] = []
items_from number (octets ∷ more) = item_of number octets ∷ items_from (number + 1) more

abbrev pub items_if_read : ℕ → Result (List (List ℕ)) LineFault → Result (List Item) LineFault
items_if_read number (Ok messages) = Ok (items_from number messages)
items_if_read number (Err fault) = Err fault

-- what a text gives, or its first line that is no word of hexadecimal digits or breaks a limit of lines
abbrev pub items_of : List ℕ → Result (List Item) LineFault
items_of text = items_if_read 1 (octets_of_lines 1 (lines_of text))

-- ---- the messages among them

abbrev pub with_event : Item → List Event → List Event
with_event (Seen e) more = e ∷ more
with_event (Refused number fault) more = more
with_event (OtherPoint number) more = more
with_event (NoOctets number) more = more
with_event Nothing more = more
with_event (Captured packet e) more = e ∷ more
with_event (Note line) more = more

unfoldable pub events_in : List Item → List Event
events_in [] = []
events_in (item ∷ items) = with_event item (events_in items)

-- ---- what the code gives

-- the items or the fault, unless memory ran out
abbrev pub Gives : Result (List Item) ImportError → Result (List Item) LineFault → Type 0
Gives (Ok items) expected = expected ≡ Ok items
Gives (Err errors.Memory) expected = Unit {0}
Gives (Err (errors.Line fault)) expected = expected ≡ Err fault
