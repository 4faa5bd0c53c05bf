-- The printed text of a message: its type, a line for each field, a line for each parameter.
use Rattle.std.specs.Prelude.{ℕ, Bool, true, false, if◌then◌else◌, List, [], ◌++◌, codes, Result, Ok, Err}
use Rattle.sccp_message.specs.Encoding.{canonical}
use Rattle.sccp_message.specs.Reading.{reading}
use Rattle.sccp_message.specs.declared.fault.DecodeFault.{DecodeFault}
use Rattle.sccp_message.specs.declared.message.Message.{Message}
use Rattle.sccp_message.specs.declared.message.Message.TheVariants as messages
use Rattle.sccp_report.specs.Faults.{fault_words}
use Rattle.sccp_report.specs.Fields.{source, destination, class_line, return_cause, refusal_cause, error_cause, release_cause, reset_cause}
use Rattle.sccp_report.specs.Fields.{more_line, send, receive, credit, hops, called, calling, data_line, parameter_lines}

abbrev pub message_lines : Message → List ℕ
message_lines (messages.Cr slr class to params) = codes "CR\n" ++ source slr ++ class_line class ++ called to ++ parameter_lines params
message_lines (messages.Cc dlr slr class params) = codes "CC\n" ++ destination dlr ++ source slr ++ class_line class
    ++ parameter_lines params
message_lines (messages.Cref dlr cause params) = codes "CREF\n" ++ destination dlr ++ refusal_cause cause ++ parameter_lines params
message_lines (messages.Rlsd dlr slr cause params) = codes "RLSD\n" ++ destination dlr ++ source slr ++ release_cause cause
    ++ parameter_lines params
message_lines (messages.Rlc dlr slr) = codes "RLC\n" ++ destination dlr ++ source slr
message_lines (messages.Dt1 dlr more payload) = codes "DT1\n" ++ destination dlr ++ more_line more ++ data_line payload
message_lines (messages.Dt2 dlr sent received more payload) = codes "DT2\n" ++ destination dlr ++ send sent ++ receive received
    ++ more_line more ++ data_line payload
message_lines (messages.Ak dlr received window) = codes "AK\n" ++ destination dlr ++ receive received ++ credit window
message_lines (messages.Udt class to from payload) = codes "UDT\n" ++ class_line class ++ called to ++ calling from ++ data_line payload
message_lines (messages.Udts cause to from payload) = codes "UDTS\n" ++ return_cause cause ++ called to ++ calling from ++ data_line payload
message_lines (messages.Ed dlr payload) = codes "ED\n" ++ destination dlr ++ data_line payload
message_lines (messages.Ea dlr) = codes "EA\n" ++ destination dlr
message_lines (messages.Rsr dlr slr cause) = codes "RSR\n" ++ destination dlr ++ source slr ++ reset_cause cause
message_lines (messages.Rsc dlr slr) = codes "RSC\n" ++ destination dlr ++ source slr
message_lines (messages.Err dlr cause) = codes "ERR\n" ++ destination dlr ++ error_cause cause
message_lines (messages.It dlr slr class sent received more window) = codes "IT\n" ++ destination dlr ++ source slr ++ class_line class
    ++ send sent ++ receive received ++ more_line more ++ credit window
message_lines (messages.Xudt class counter to from payload params) = codes "XUDT\n" ++ class_line class ++ hops counter ++ called to
    ++ calling from ++ data_line payload ++ parameter_lines params
message_lines (messages.Xudts cause counter to from payload params) = codes "XUDTS\n" ++ return_cause cause ++ hops counter ++ called to
    ++ calling from ++ data_line payload ++ parameter_lines params
message_lines (messages.Ludt class counter to from payload params) = codes "LUDT\n" ++ class_line class ++ hops counter ++ called to
    ++ calling from ++ data_line payload ++ parameter_lines params
message_lines (messages.Ludts cause counter to from payload params) = codes "LUDTS\n" ++ return_cause cause ++ hops counter ++ called to
    ++ calling from ++ data_line payload ++ parameter_lines params

-- The kinds of types whose lines are put by one function each.

-- connectionless
abbrev pub is_unit : Message → Bool
is_unit (messages.Udt class to from payload) = true
is_unit (messages.Udts cause to from payload) = true
is_unit (messages.Xudt class counter to from payload params) = true
is_unit (messages.Xudts cause counter to from payload params) = true
is_unit (messages.Ludt class counter to from payload params) = true
is_unit (messages.Ludts cause counter to from payload params) = true
is_unit _ = false

-- connection-oriented, with parameters
abbrev pub has_parameters : Message → Bool
has_parameters (messages.Cr slr class to params) = true
has_parameters (messages.Cc dlr slr class params) = true
has_parameters (messages.Cref dlr cause params) = true
has_parameters (messages.Rlsd dlr slr cause params) = true
has_parameters _ = false

-- data, and what controls their flow
abbrev pub is_of_data : Message → Bool
is_of_data (messages.Dt1 dlr more payload) = true
is_of_data (messages.Dt2 dlr sent received more payload) = true
is_of_data (messages.Ak dlr received window) = true
is_of_data (messages.Ed dlr payload) = true
is_of_data (messages.It dlr slr class sent received more window) = true
is_of_data _ = false

-- references, and a cause if there is one
abbrev pub is_of_references : Message → Bool
is_of_references (messages.Rlc dlr slr) = true
is_of_references (messages.Ea dlr) = true
is_of_references (messages.Rsr dlr slr cause) = true
is_of_references (messages.Rsc dlr slr) = true
is_of_references (messages.Err dlr cause) = true
is_of_references _ = false

-- the lines of a message of a kind; of another one none
abbrev pub lines_if : (Message → Bool) → Message → List ℕ
lines_if is message = if is message then message_lines message else []

-- the line on octets that are no message
unfoldable pub undecodable_line : DecodeFault → List ℕ
undecodable_line fault = codes "undecodable " ++ fault_words fault ++ codes "\n"

-- whether the octets are those that are written of the message
unfoldable pub canonical_line : Bool → List ℕ
canonical_line holds = if holds then codes "canonical yes\n" else codes "canonical no\n"

abbrev pub decoded_text : List ℕ → Result Message DecodeFault → List ℕ
decoded_text octets (Ok message) = message_lines message ++ canonical_line (canonical octets)
decoded_text octets (Err fault) = undecodable_line fault

-- the lines of the message that the octets are, or one line that says why they are none
unfoldable pub message_text : List ℕ → List ℕ
message_text octets = decoded_text octets (reading octets)
