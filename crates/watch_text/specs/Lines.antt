-- The printed line of a captured message.
use Rattle.std.specs.Prelude.{ℕ, ◌==◌, if◌then◌else◌, List, [], ◌∷◌, ◌++◌, codes, decimal, Option, Some, None}
use Rattle.std.specs.List.{position}
use Rattle.std.specs.Option.{option_map_or}
use Rattle.plan_model.specs.Network.{Network, has_point}
use Rattle.sccp_manage.specs.declared.status.StatusKind.{StatusKind}
use Rattle.sccp_manage.specs.declared.status.StatusKind.TheVariants as kinds
use Rattle.sccp_manage.specs.declared.status.StatusMessage.{StatusMessage}
use Rattle.sccp_report.specs.Faults.{fault_words}
use Rattle.sccp_report.specs.Hops.{destination_text, node_text}
use Rattle.sccp_report.specs.Values.{point_code_text}
use Rattle.relay_ways.specs.declared.explanation.Explanation.{Explanation}
use Rattle.relay_watch.specs.declared.event.Event.{Event}
use Rattle.relay_watch.specs.declared.line.Line.{Line}
use Rattle.relay_watch.specs.declared.unanswered.Unanswered.{Unanswered}
use Rattle.relay_watch.specs.declared.verdict.Verdict.{Verdict}
use Rattle.relay_watch.specs.declared.verdict.Verdict.TheVariants.{Undecodable, Connection, Other, Arrived, Explained, Management, Own}
use Rattle.relay_watch.specs.declared.verdict.Verdict.TheVariants.{Unexplained}
use Rattle.watch_text.specs.Ways.{ways_text, why_words}

-- the name of the relay at a place of the plan, or a point without one
abbrev pub relay_text : Network → ℕ → Option ℕ → List ℕ
relay_text plan pc None = point_code_text pc
relay_text plan pc (Some node) = node_text plan node

-- the name of the plan's relay at a point, or the point
unfoldable pub point_text : Network → ℕ → List ℕ
point_text plan pc = relay_text plan pc (position (has_point pc) plan.nodes)

-- a type code, and the name of the type (Q.713 section 2.1)
pub record TypeName : Type 0 where
  pub code : ℕ
  pub name : List ℕ

abbrev pub named : ℕ → List ℕ → TypeName
named code name = record { code = code; name = name }

-- the name of the first type in a table that has the code; nothing if none has
abbrev pub name_in : ℕ → List TypeName → List ℕ
name_in code [] = []
name_in code (t ∷ ts) = if t.code == code then t.name else name_in code ts

-- the connectionless types
abbrev pub unit_types : List TypeName
unit_types = named 9 (codes "UDT") ∷ named 10 (codes "UDTS") ∷ named 17 (codes "XUDT") ∷ named 18 (codes "XUDTS")
    ∷ named 19 (codes "LUDT") ∷ named 20 (codes "LUDTS") ∷ []

-- the connection-oriented types
abbrev pub connection_types : List TypeName
connection_types = named 1 (codes "CR") ∷ named 2 (codes "CC") ∷ named 3 (codes "CREF") ∷ named 4 (codes "RLSD") ∷ named 5 (codes "RLC")
    ∷ named 6 (codes "DT1") ∷ named 7 (codes "DT2") ∷ named 8 (codes "AK") ∷ named 11 (codes "ED") ∷ named 12 (codes "EA")
    ∷ named 13 (codes "RSR") ∷ named 14 (codes "RSC") ∷ named 15 (codes "ERR") ∷ named 16 (codes "IT") ∷ []

-- the name of a message's type, which its first octet says, if it is a connectionless one
unfoldable pub unit_name : List ℕ → List ℕ
unit_name [] = []
unit_name (code ∷ octets) = name_in code unit_types

-- the same of a connection-oriented type
unfoldable pub connection_name : List ℕ → List ℕ
connection_name [] = []
connection_name (code ∷ octets) = name_in code connection_types

-- the kinds of status message, by their short names
unfoldable pub kind_word : StatusKind → List ℕ
kind_word kinds.Allowed = codes "ssa"
kind_word kinds.Prohibited = codes "ssp"
kind_word kinds.Test = codes "sst"
kind_word kinds.OutOfServiceRequest = codes "sor"
kind_word kinds.OutOfServiceGrant = codes "sog"
kind_word kinds.Congested = codes "ssc"

-- what management says of which subsystem
unfoldable pub status_words : Option StatusMessage → List ℕ
status_words None = codes "unknown"
status_words (Some s) = kind_word s.kind ++ codes " " ++ destination_text s.pc s.ssn

-- which arrival explains the message, and in which ways
unfoldable pub explained_words : ℕ → List Explanation → List ℕ
explained_words by ways = codes " explained by " ++ decimal by ++ codes " " ++ ways_text ways

-- before the type of a message that is not judged
unfoldable pub connection_word : List ℕ
connection_word = codes "connection "

-- before what management says
unfoldable pub management_word : List ℕ
management_word = codes "management "

-- what a message is to the relays of the plan
unfoldable pub verdict_words : List ℕ → Verdict → List ℕ
verdict_words octets (Undecodable fault) = codes "undecodable " ++ fault_words fault
verdict_words octets Connection = connection_word ++ connection_name octets
verdict_words octets Other = unit_name octets ++ codes " other"
verdict_words octets Arrived = unit_name octets
verdict_words octets (Explained by ways) = unit_name octets ++ explained_words by ways
verdict_words octets (Management status) = management_word ++ status_words status
verdict_words octets (Own ssn) = unit_name octets ++ codes " own " ++ decimal ssn
verdict_words octets (Unexplained why) = unit_name octets ++ codes " unexplained " ++ why_words why

-- the number of the packet that had the message, if it is of a capture
unfoldable pub packet_words : Option ℕ → List ℕ
packet_words None = []
packet_words (Some packet) = codes " packet " ++ decimal packet

-- the number of a message, and the points between which it went
unfoldable pub head : Network → Option ℕ → Event → List ℕ
head plan packet e =
    decimal e.number ++ packet_words packet ++ codes " from " ++ point_text plan e.origin ++ codes " to "
    ++ point_text plan e.destination ++ codes " "

-- an arrival that nothing answered, at its relay
unfoldable pub unanswered_line : Network → Unanswered → List ℕ
unanswered_line plan u = decimal u.number ++ codes " unanswered at " ++ node_text plan u.node ++ codes "\n"

-- the line of a message; and the line of the arrival that is given up, if nothing answered it
unfoldable pub line_text : Network → Option ℕ → Event → Line → List ℕ
line_text plan packet e line =
    head plan packet e ++ verdict_words e.octets line.verdict ++ codes "\n" ++ option_map_or (unanswered_line plan) line.unanswered []
