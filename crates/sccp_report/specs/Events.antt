-- The printed text of a line of a trace that is neither a later plan nor a message that is routed.
use Rattle.std.specs.Prelude.{ℕ, List, [], ◌++◌, codes, decimal, if◌then◌else◌, Option, Some, None, is_some, Result, Ok, Err}
use Rattle.std.specs.Option.{option_and_then}
use Rattle.sccp_message.specs.Reading.{reading}
use Rattle.sccp_message.specs.declared.fault.DecodeFault.{DecodeFault}
use Rattle.sccp_message.specs.declared.message.Message.{Message}
use Rattle.sccp_message.specs.declared.message.Message.TheVariants as messages
use Rattle.sccp_message.specs.Unitdata.{called_of}
use Rattle.sccp_manage.specs.Statuses.{status_of}
use Rattle.sccp_manage.specs.declared.status.StatusKind.{StatusKind}
use Rattle.sccp_manage.specs.declared.status.StatusKind.TheVariants.{Allowed, Prohibited, Test, OutOfServiceRequest, OutOfServiceGrant}
use Rattle.sccp_manage.specs.declared.status.StatusKind.TheVariants.{Congested}
use Rattle.sccp_manage.specs.declared.status.StatusMessage.{StatusMessage}
use Rattle.plan_model.specs.Network.{Network}
use Rattle.relay_net.specs.declared.outcome.Outcome.{Outcome}
use Rattle.trace_text.specs.declared.line.Line.{Line}
use Rattle.trace_text.specs.declared.line.Line.TheVariants.{Msg, Pause, Resume, NoSccp, Up, Down, Tick, Plan, Fence, Skip}
use Rattle.trace_text.specs.declared.line.Numbered.{Numbered}
use Rattle.sccp_report.specs.Hops.{destination_text}
use Rattle.sccp_report.specs.MessageText.{undecodable_line}
use Rattle.sccp_report.specs.Roles.{named, management_data}
use Rattle.sccp_report.specs.Served.{sent_lines}
use Rattle.sccp_report.specs.Values.{numbered, point_code_text}

-- the types of connection-oriented messages, after a blank
unfoldable pub connection_words : Message → List ℕ
connection_words (messages.Cr slr class called params) = codes " CR"
connection_words (messages.Cc dlr slr class params) = codes " CC"
connection_words (messages.Cref dlr cause params) = codes " CREF"
connection_words (messages.Rlsd dlr slr cause params) = codes " RLSD"
connection_words (messages.Rlc dlr slr) = codes " RLC"
connection_words (messages.Dt1 dlr more payload) = codes " DT1"
connection_words (messages.Dt2 dlr send receive more payload) = codes " DT2"
connection_words (messages.Ak dlr receive credit) = codes " AK"
connection_words (messages.Ed dlr payload) = codes " ED"
connection_words (messages.Ea dlr) = codes " EA"
connection_words (messages.Rsr dlr slr cause) = codes " RSR"
connection_words (messages.Rsc dlr slr) = codes " RSC"
connection_words (messages.Err dlr cause) = codes " ERR"
connection_words (messages.It dlr slr class send receive more credit) = codes " IT"
connection_words m = []

-- the names of the kinds of status message
unfoldable pub kind_word : StatusKind → List ℕ
kind_word Allowed = codes "ssa"
kind_word Prohibited = codes "ssp"
kind_word Test = codes "sst"
kind_word OutOfServiceRequest = codes "sor"
kind_word OutOfServiceGrant = codes "sog"
kind_word Congested = codes "ssc"

-- what a message for management says of which subsystem
unfoldable pub status_words : Option StatusMessage → List ℕ
status_words None = codes " unknown"
status_words (Some s) = codes " " ++ kind_word s.kind ++ codes " " ++ destination_text s.pc s.ssn

-- what a message for management says
unfoldable pub management_words : Message → List ℕ
management_words m = codes "management" ++ status_words (option_and_then status_of (management_data m))

-- the type of a connection-oriented message
unfoldable pub coupling_words : Message → List ℕ
coupling_words m = codes "connection" ++ connection_words m

-- a message that is not routed: a connectionless one is for management
unfoldable pub message_words : Message → List ℕ
message_words m = if is_some (called_of m) then management_words m else coupling_words m

unfoldable pub message_line : Result Message DecodeFault → List ℕ
message_line (Ok m) = codes " " ++ message_words m ++ codes "\n"
message_line (Err fault) = codes " " ++ undecodable_line fault

-- the number of a line and its own words, or that no node has the name
unfoldable pub at_node : Option ℕ → ℕ → List ℕ → List ℕ
at_node None line words = decimal line ++ codes " unknown node\n"
at_node (Some node) line words = decimal line ++ words

unfoldable pub point_words : List ℕ → List ℕ → ℕ → List ℕ
point_words verb name pc = verb ++ name ++ codes " " ++ point_code_text pc ++ codes "\n"

unfoldable pub ssn_words : List ℕ → List ℕ → ℕ → List ℕ
ssn_words verb name ssn = verb ++ name ++ numbered (codes " ") ssn ++ codes "\n"

unfoldable pub tick_words : List ℕ → List ℕ
tick_words name = codes " tick " ++ name ++ codes "\n"

-- the name of the node that a line is about
abbrev pub node_in : Line → Option (List ℕ)
node_in (Msg name origin octets) = Some name
node_in (Pause name pc) = Some name
node_in (Resume name pc) = Some name
node_in (NoSccp name pc) = Some name
node_in (Up name ssn) = Some name
node_in (Down name ssn) = Some name
node_in (Tick name) = Some name
node_in (Plan file) = None
node_in Fence = None
node_in Skip = None

-- what is printed of a line after its number
unfoldable pub line_words : Line → List ℕ
line_words (Msg name origin octets) = message_line (reading octets)
line_words (Pause name pc) = point_words (codes " pause ") name pc
line_words (Resume name pc) = point_words (codes " resume ") name pc
line_words (NoSccp name pc) = point_words (codes " no-sccp ") name pc
line_words (Up name ssn) = ssn_words (codes " up ") name ssn
line_words (Down name ssn) = ssn_words (codes " down ") name ssn
line_words (Tick name) = tick_words name
line_words (Plan file) = []
line_words Fence = []
line_words Skip = []

-- A fence and a skipped line print nothing. The line on a later plan is not made here.
unfoldable pub event_line : Network → ℕ → Option (List ℕ) → List ℕ → List ℕ
event_line plan number None words = []
event_line plan number (Some name) words = at_node (named plan name) number words

-- the line, and after it a line for each message that is sent because of it
abbrev pub event_text : Network → Numbered → List Outcome → List ℕ
event_text plan line outcomes = event_line plan line.number (node_in line.line) (line_words line.line) ++ sent_lines line.number outcomes
