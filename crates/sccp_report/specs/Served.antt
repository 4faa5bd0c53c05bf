-- The printed text of a message that was routed.
use Rattle.std.specs.Prelude.{ℕ, List, [], ◌∷◌, ◌++◌, codes, decimal, Option, Some, None, unwrap_or}
use Rattle.std.specs.List.{flat_map}
use Rattle.std.specs.Option.{option_map_or}
use Rattle.sccp_message.specs.declared.message.Message.{Message}
use Rattle.sccp_message.specs.Written.{content}
use Rattle.sccp_segment.specs.declared.taken.Taken.{Taken}
use Rattle.sccp_segment.specs.declared.taken.Taken.TheVariants.{More, Whole, Dropped}
use Rattle.sccp_segment.specs.declared.taken.Why.{Why}
use Rattle.sccp_segment.specs.declared.taken.Why.TheVariants.{NotFirst, OutOfStep, Restarted}
use Rattle.sccp_scrc.specs.declared.way.Way.{Way}
use Rattle.sccp_scrc.specs.declared.way.Way.TheVariants.{Direct, Shut, ByTitle}
use Rattle.sccp_base.specs.declared.mark.Mark.{Mark}
use Rattle.plan_model.specs.Network.{Network}
use Rattle.relay_net.specs.declared.outcome.Outcome.{Outcome}
use Rattle.relay_net.specs.declared.outcome.Outcome.TheVariants.{Sent, Segment, PoolFull}
use Rattle.relay_net.specs.declared.back.Back.{Back}
use Rattle.relay_net.specs.declared.end.End.{End}
use Rattle.relay_net.specs.declared.end.End.TheVariants as ends
use Rattle.relay_net.specs.declared.travelled.Journey.{Journey}
use Rattle.sccp_report.specs.Hops.{destination_text, mark_text, marks_text, node_text}
use Rattle.sccp_report.specs.Values.{numbered, octets_text, point_code_text}

unfoldable pub next_node_text : Network → ℕ → List ℕ
next_node_text plan node = codes "," ++ node_text plan node

-- the names of nodes with commas between them
unfoldable pub path_text : Network → List ℕ → List ℕ
path_text plan [] = []
path_text plan (node ∷ nodes) = node_text plan node ++ flat_map (next_node_text plan) nodes

abbrev pub why_number : Why → ℕ
why_number NotFirst = 1
why_number OutOfStep = 2
why_number Restarted = 3

-- what became of a segment
unfoldable pub taken_words : Taken → List ℕ
taken_words More = codes "more"
taken_words (Whole octets) = codes "whole " ++ octets_text octets
taken_words (Dropped why) = numbered (codes "dropped ") (why_number why)

unfoldable pub segment_words : Outcome → List ℕ
segment_words (Sent sent) = []
segment_words (Segment taken) = codes " segment " ++ taken_words taken
segment_words PoolFull = codes " segment full"

-- octets that go to a subsystem at a point
unfoldable pub ended_words : ℕ → ℕ → List ℕ → List ℕ
ended_words pc ssn octets = codes " ended " ++ destination_text pc ssn ++ codes " " ++ octets_text octets

-- how a service message that goes by title ends
unfoldable pub back_end_words : End → List ℕ
back_end_words (ends.Ended pc ssn octets) = ended_words pc ssn octets
back_end_words (ends.Local ssn m) = numbered (codes " local ") ssn
back_end_words (ends.Returned cause marks) = numbered (codes " lost ") cause
back_end_words (ends.Management m) = codes " management"
back_end_words ends.Cut = codes " cut"
back_end_words (ends.Connection m) = []
back_end_words (ends.Undecodable fault) = []

-- the destination of a service message
unfoldable pub way_words : Network → Way → List ℕ → Option End → List ℕ
way_words plan (Direct pc) path end = codes " sent " ++ point_code_text pc
way_words plan (Shut mark) path end = codes " closed " ++ mark_text mark
way_words plan ByTitle path end = codes " via " ++ path_text plan path ++ option_map_or back_end_words end []

-- the service message, if there is one
unfoldable pub back_words : Network → Option Back → List ℕ
back_words plan None = codes " no service"
back_words plan (Some back) = codes " service " ++ octets_text back.octets ++ way_words plan back.way back.path back.end

-- the data of a message; nothing if its type has none
abbrev pub data_of : Message → List ℕ
data_of m = unwrap_or (content m).payload []

-- a message that is for a subsystem of its last node, and what became of it if it is a segment
unfoldable pub local_words : ℕ → Message → List Outcome → List ℕ
local_words ssn m outcomes = numbered (codes " local ") ssn ++ codes " data " ++ octets_text (data_of m) ++ flat_map segment_words outcomes

-- a message that cannot be delivered, the marks that close its way, and the service message
unfoldable pub returned_words : Network → ℕ → List Mark → Option Back → List ℕ
returned_words plan cause marks back = numbered (codes " returned ") cause ++ codes " marks " ++ marks_text marks ++ back_words plan back

-- How the message ends. The other ends are not those of a message that is routed.
unfoldable pub end_words : Network → Option Back → List Outcome → End → List ℕ
end_words plan back outcomes (ends.Ended pc ssn octets) = ended_words pc ssn octets
end_words plan back outcomes (ends.Local ssn m) = local_words ssn m outcomes
end_words plan back outcomes (ends.Returned cause marks) = returned_words plan cause marks back
end_words plan back outcomes ends.Cut = codes " cut"
end_words plan back outcomes (ends.Connection m) = []
end_words plan back outcomes (ends.Management m) = []
end_words plan back outcomes (ends.Undecodable fault) = []

-- a line of its own for each message that is sent
unfoldable pub sent_line : ℕ → Outcome → List ℕ
sent_line line (Sent sent) = decimal line ++ codes " sends " ++ point_code_text sent.to ++ codes " " ++ octets_text sent.octets
    ++ codes "\n"
sent_line line (Segment taken) = []
sent_line line PoolFull = []

abbrev pub sent_lines : ℕ → List Outcome → List ℕ
sent_lines line outcomes = flat_map (sent_line line) outcomes

-- the number of its line in the trace, the number of its plan, the relays that it reached, and its end
unfoldable pub journey_line : Network → ℕ → ℕ → Journey → List Outcome → List ℕ
journey_line plan line number j outcomes =
    decimal line ++ numbered (codes " by ") number ++ codes " via " ++ path_text plan j.path ++ end_words plan j.back outcomes j.end
    ++ codes "\n"

abbrev pub served_text : Network → ℕ → ℕ → Journey → List Outcome → List ℕ
served_text plan line number j outcomes = journey_line plan line number j outcomes ++ sent_lines line outcomes
