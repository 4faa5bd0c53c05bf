-- What becomes of a DATA message in a trace. It is a line with the message of SCCP that it carries, or a line that says why
-- there is none.
use Rattle.std.specs.Prelude.{ℕ, not, ◌||◌, ◌==◌, nat_lt, if◌then◌else◌, List, ◌++◌, length, codes, decimal, Option, Some, None, Result}
use Rattle.std.specs.Prelude.{Ok, Err, option_and_then}
use Rattle.std.specs.List.{find}
use Rattle.hex.specs.Hex.{encode_upper}
use Rattle.m3ua_data.specs.Carried.{Payload, carried_of}
use Rattle.m3ua_data.specs.Reading.{reading}
use Rattle.m3ua_data.specs.declared.fault.DataFault.{DataFault}
use Rattle.m3ua_data.specs.declared.payload.Carried.{Carried}
use Rattle.m3ua_data.specs.declared.fault.DataFault.TheVariants.{Short, BadHeader, BadLength, BadParameter, NoData, BadField, OutOfMemory}
use Rattle.m3ua_data.specs.declared.tagged.Tagged.{Tagged}
use Rattle.plan_model.specs.Network.{Network, has_point}
use Rattle.sccp_base.specs.Names.{name_of}
use Rattle.sccp_report.specs.Values.{point_code_text}
use Rattle.trace_text.specs.declared.line.Line.{Line}
use Rattle.trace_text.specs.declared.line.Line.TheVariants as lines
use Rattle.m3ua_trace.specs.declared.imported.Imported.{Imported as Lent}
use Rattle.m3ua_trace.specs.declared.imported.Imported.TheVariants as lent

-- what becomes of it, in the order of testing
pub data Imported : Type 0 where
  -- it is not a DATA message: the number of the first fault
  Refused : ℕ → Imported
  -- the service indicator is this one, and not that of SCCP
  OtherService : ℕ → Imported
  -- a point code has more than 14 bits
  OtherPoint : Imported
  -- no node of the plan has the destination's point code
  UnknownNode : Imported
  -- SCCP gets no octets
  NoOctets : Imported
  -- the name of the node that it is for, the point from which it arrives, and the octets for SCCP
  Message : List ℕ → ℕ → List ℕ → Imported

-- the same as the code gives it
abbrev pub imported_as : Lent → Imported
imported_as (lent.Refused fault) = Refused fault
imported_as (lent.OtherService service) = OtherService service
imported_as lent.OtherPoint = OtherPoint
imported_as lent.UnknownNode = UnknownNode
imported_as lent.NoOctets = NoOctets
imported_as (lent.Message name origin octets) = Message name.now origin octets.now

-- the faults by their numbers, in the order of testing; want of memory is none
abbrev pub fault_number : DataFault → ℕ
fault_number Short = 1
fault_number BadHeader = 2
fault_number BadLength = 3
fault_number (BadParameter i) = 4
fault_number NoData = 5
fault_number (BadField tag) = 6
fault_number OutOfMemory = 0

-- the number of a fault, none for want of memory
abbrev pub number_unless_memory : DataFault → Option ℕ
number_unless_memory OutOfMemory = None
number_unless_memory fault = Some (fault_number fault)

-- what the code gives of a DATA message
abbrev pub payload_in : Carried → Payload
payload_in c = record { origin = c.origin; destination = c.destination; service = c.service; payload = c.payload.now }

-- the service indicator of SCCP (Q.704 section 14.2.1)
abbrev pub sccp : ℕ
sccp = 3

-- the name of the node with this point code; every node of a plan has one
abbrev pub name_at : Network → ℕ → Option (List ℕ)
name_at plan pc = option_and_then (λ node. name_of node.name) (find (has_point pc) plan.nodes)

-- by the name of the destination's node
abbrev pub for_node : Option (List ℕ) → ℕ → List ℕ → Imported
for_node None origin octets = UnknownNode
for_node (Some name) origin octets = if length octets == 0 then NoOctets else Message name origin octets

-- by what the message carries, in the order of testing
abbrev pub from_payload : Network → Payload → Imported
from_payload plan p =
    if not (p.service == sccp) then OtherService p.service
    else if nat_lt 16383 p.origin || nat_lt 16383 p.destination then OtherPoint
    else for_node (name_at plan p.destination) p.origin p.payload

-- sound parameters always carry protocol data, so the first case never arises
abbrev pub from_carried : Network → Option Payload → Imported
from_carried plan None = Refused (fault_number NoData)
from_carried plan (Some p) = from_payload plan p

-- by what reading gives
abbrev pub from_reading : Network → Result (List Tagged) DataFault → Imported
from_reading plan (Ok params) = from_carried plan (carried_of params)
from_reading plan (Err fault) = Refused (fault_number fault)

-- what becomes of octets under a plan
abbrev pub imported : Network → List ℕ → Imported
imported plan octets = from_reading plan (reading octets)

-- the line of a trace for a message: its node, its origin and its octets
unfoldable pub message_line : List ℕ → ℕ → List ℕ → List ℕ
message_line name origin octets = codes "msg " ++ (name ++ (codes " " ++ (point_code_text origin ++ (codes " " ++ encode_upper octets))))

-- The line without its line feed. A line that begins with # is skipped when the trace is read.
unfoldable pub imported_text : Imported → List ℕ
imported_text (Refused fault) = codes "# refused " ++ decimal fault
imported_text (OtherService service) = codes "# service " ++ decimal service
imported_text OtherPoint = codes "# point"
imported_text UnknownNode = codes "# unknown node"
imported_text NoOctets = codes "# empty"
imported_text (Message name origin octets) = message_line name origin octets

-- what that line is in a trace
abbrev pub trace_line : Imported → Line
trace_line (Message name origin octets) = lines.Msg name origin octets
trace_line other = lines.Skip
