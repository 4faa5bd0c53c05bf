-- The command that sends a message on over a link that carries no long messages (LUDT).
use Rattle.std.specs.Prelude.{◌≡◌, ◌⊎◌, ℕ, ◌&&◌, nat_lt, List, [], ◌∷◌, ◌++◌, codes, Option, Some, None, option_and_then, option_map}
use Rattle.std.specs.Prelude.{Result, Ok, Err, if◌then◌else◌}
use Rattle.std.specs.Io.KnownBytes.{append_known}
use Rattle.std.specs.List.{flat_map, position}
use Rattle.long_segments.specs.Carried.{CarryData}
use Rattle.long_segments.specs.Sending.{sending}
use Rattle.long_segments.specs.declared.long_fault.LongFault.{LongFault}
use Rattle.long_segments.specs.declared.long_fault.LongFault.TheVariants.{NotLong, AlreadySegment, ZeroSize, TooMany, NotWritable}
use Rattle.long_segments.specs.declared.long_fault.LongFault.TheVariants.{OutOfMemory}
use Rattle.plan_model.specs.declared.limits.Limits.{Limits}
use Rattle.plan_model.specs.Network.{Network, has_name}
use Rattle.sccp_address.specs.declared.address.Address.{Address}
use Rattle.sccp_base.specs.Names.{name_of}
use Rattle.sccp_base.specs.Text.{cut_at, decimal_of, point_code_of}
use Rattle.sccp_message.specs.Reading.{reading}
use Rattle.sccp_io.specs.Files.{Contents}
use Rattle.sccp_layout.specs.Parameter.{Parameter}
use Rattle.sccp_message.specs.declared.message.Message.{Message}
use Rattle.sccp_message.specs.declared.message.Message.TheVariants.{Ludt}
use Rattle.sccp_message.specs.Unitdata.{called_of}
use Rattle.sccp_report.specs.Events.{coupling_words}
use Rattle.sccp_report.specs.Hops.{marks_text}
use Rattle.sccp_report.specs.MessageText.{undecodable_line}
use Rattle.sccp_report.specs.Values.{numbered, octets_text, point_code_text}
use Rattle.sccp_scrc.specs.Arriving.{arrival}
use Rattle.sccp_scrc.specs.declared.arrival.Arrival.{Arrival}
use Rattle.sccp_scrc.specs.declared.arrival.Arrival.TheVariants.{Relayed, Ended, Local, Returned, Connection, Management, Undecodable}
use Rattle.trace_text.specs.Forms.{file_name}
use Rattle.trace_text.specs.Hex.{hex_word}
use Rattle.sccp_work.specs.PlanFile.{PlanFile, plan_file}
use Rattle.sccp_work.specs.Plans.{with_plan, HasPlan}
use Rattle.sccp_tool.specs.Task.{Task, SendOn}
use Rattle.sccp_plans.specs.Texts.{unknown_node}
use Rattle.sccp_work.specs.Work.{Work, answered}
use Rattle.sccp_tool.specs.declared.send_on.Incoming.{Incoming}
use Rattle.sccp_work.specs.declared.status.Status.{Status}
use Rattle.sccp_work.specs.declared.status.Status.TheVariants.{Done}

-- ---- the words

-- a number from 1 to 255 of one to ten decimal digits
abbrev pub size_of : List ℕ → Option ℕ
size_of word = option_and_then (λ n. if nat_lt 0 n && nat_lt n 256 then Some n else None) (decimal_of 10 word)

-- octets that arrive at the node of a name from a point, and how many octets of data a segment may have
unfoldable pub incoming_of : List ℕ → List ℕ → List ℕ → List ℕ → Option Incoming
incoming_of node origin size digits =
    option_and_then (λ name. option_and_then (λ pc. option_and_then (λ n. option_and_then (λ octets.
    Some (record { node = name; origin = pc; size = n; octets = octets }))
    (hex_word digits)) (size_of size)) (point_code_of origin)) (name_of node)

unfoldable pub send_on_of : Limits → List ℕ → List ℕ → List ℕ → List ℕ → List ℕ → Option Task
send_on_of limits plan node origin size digits = option_and_then (λ name. option_map (SendOn (plan_file name limits))
    (incoming_of node origin size digits))
    (file_name plan)

-- PLAN NODE ORIGIN SIZE HEX
unfoldable pub send_on_words : Limits → List (List ℕ) → Option Task
send_on_words limits (plan ∷ node ∷ origin ∷ size ∷ digits ∷ []) = send_on_of limits plan node origin size digits
send_on_words limits words = None

-- ---- the lines

-- octets that go to a point
unfoldable pub to_line : ℕ → List ℕ → List ℕ
to_line pc octets = codes "to " ++ point_code_text pc ++ codes " " ++ octets_text octets ++ codes "\n"

-- What is not cut: octets that are no long message go as they are, and another fault of a long message has a line. A size is
-- never 0, and want of memory has no line.
unfoldable pub uncut_lines : ℕ → List ℕ → LongFault → List ℕ
uncut_lines pc octets NotLong = to_line pc octets
uncut_lines pc octets AlreadySegment = codes "not split already segment\n"
uncut_lines pc octets TooMany = codes "not split too many\n"
uncut_lines pc octets (NotWritable fault) = codes "not split not writable\n"
uncut_lines pc octets ZeroSize = []
uncut_lines pc octets OutOfMemory = []

-- a line for each segment of a long message
abbrev pub cut_lines : ℕ → List ℕ → Result (List (List ℕ)) LongFault → List ℕ
cut_lines pc octets (Ok segments) = flat_map (to_line pc) segments
cut_lines pc octets (Err fault) = uncut_lines pc octets fault

-- octets that leave for a point: a long message in segments of this number of octets of data, with the reference 1 unless it
-- has its own
abbrev pub leaving_lines : ℕ → ℕ → List ℕ → List ℕ
leaving_lines size pc octets = cut_lines pc octets (sending octets size 1)

-- a connection-oriented message
unfoldable pub connection_line : Message → List ℕ
connection_line m = coupling_words m ++ codes "\n"

-- what becomes of octets at a relay
unfoldable pub arrival_lines : ℕ → Arrival → List ℕ
arrival_lines size (Relayed pc octets) = leaving_lines size pc octets
arrival_lines size (Ended pc ssn octets) = leaving_lines size pc octets
arrival_lines size (Local ssn m) = numbered (codes "local ") ssn ++ codes "\n"
arrival_lines size (Returned cause marks service) = numbered (codes "returned ") cause ++ codes " marks " ++ marks_text marks ++ codes "\n"
arrival_lines size (Connection m) = connection_line m
arrival_lines size (Management m) = codes "management\n"
arrival_lines size (Undecodable fault) = undecodable_line fault

abbrev pub lines_at : Network → Incoming → Option ℕ → List ℕ
lines_at plan i None = unknown_node
lines_at plan i (Some node) = arrival_lines i.size (arrival plan node [] i.origin i.octets)

-- what becomes of octets at the node of that name while nothing is prohibited, or the line that no node has it
abbrev pub send_on_text : Network → Incoming → List ℕ
send_on_text plan i = lines_at plan i (position (has_name i.node) plan.nodes)

-- the plan is read first, and not verified
abbrev pub send_on_work : PlanFile → Incoming → Work
send_on_work file i = with_plan file (λ plan. answered (Done, send_on_text plan i))

-- ---- what the text says

-- why a long message is not split
abbrev pub IsNotSplit : List ℕ → Type 0
IsNotSplit text = (text ≡ codes "not split already segment\n")
    ⊎ ((text ≡ codes "not split too many\n") ⊎ (text ≡ codes "not split not writable\n"))

-- If octets that leave for a point are a long message, the text is a line for each of some octets, which carry its data in
-- segments, or says why the message is not split.
abbrev pub TellsSegments : ℕ → List ℕ → List ℕ → Type 0
TellsSegments pc octets text =
    (class hops : ℕ) (called calling : Address) (payload : List ℕ) (params : List Parameter)
    → reading octets ≡ Ok (Ludt class hops called calling payload params)
    → IsNotSplit text ⊎ ((list : List (List ℕ)) × (text ≡ flat_map (to_line pc) list) × CarryData list payload)

-- the same of octets that leave a relay, if any do
abbrev pub TellsLeaving : Arrival → List ℕ → Type 0
TellsLeaving (Relayed pc octets) text = TellsSegments pc octets text
TellsLeaving (Ended pc ssn octets) text = TellsSegments pc octets text
TellsLeaving (Local ssn m) text = Unit {0}
TellsLeaving (Returned cause marks service) text = Unit {0}
TellsLeaving (Connection m) text = Unit {0}
TellsLeaving (Management m) text = Unit {0}
TellsLeaving (Undecodable fault) text = Unit {0}

-- The sink took a text that says so of what becomes of the octets at the relay of that name.
abbrev pub SendOnTells : Option Contents → PlanFile → Incoming → Status → Option (List ℕ) → Option (List ℕ) → Type 0
SendOnTells contents file i given taken taken' = given ≡ Done → HasPlan contents file (λ plan. (text : List ℕ)
    × (taken' ≡ append_known taken text) × ((node : ℕ) → position (has_name i.node) plan.nodes ≡ Some node
    → TellsLeaving (arrival plan node [] i.origin i.octets) text))

-- ---- the same for the calls inside

-- what is before a line feed (10)
abbrev pub before_or : List ℕ → Option (List ℕ × List ℕ) → List ℕ
before_or text None = text
before_or text (Some parts) = parts.0

-- the first line of a text
unfoldable pub first_line : List ℕ → List ℕ
first_line text = before_or text (cut_at 10 text)

-- the line of a connection-oriented message of the type with this name
unfoldable pub type_line : List ℕ → List ℕ
type_line name = codes "connection " ++ name ++ codes "\n"

-- an arrival of these octets while nothing is prohibited
abbrev pub IsOfOctets : List ℕ → Arrival → Type 0
IsOfOctets b (Returned cause marks service) = marks ≡ []
IsOfOctets b (Connection m) = (reading b ≡ Ok m) × (called_of m ≡ None)
IsOfOctets b (Undecodable fault) = reading b ≡ Err fault
IsOfOctets b (Relayed pc octets) = Unit {0}
IsOfOctets b (Ended pc ssn octets) = Unit {0}
IsOfOctets b (Local ssn m) = Unit {0}
IsOfOctets b (Management m) = Unit {0}
