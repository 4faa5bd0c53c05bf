-- Lines of captured messages, computed on the definitions.
use Rattle.std.specs.Prelude.{◌≡◌, ℕ, List, [], ◌∷◌, ◌++◌, codes, Option, Some, None}
use Rattle.std.specs.Fmt.{digits}
use Rattle.std.proofs.Common.{refl}
use Rattle.sccp_base.specs.declared.mark.Mark.{Mark}
use Rattle.sccp_base.specs.declared.mark.Mark.TheVariants.{PointCode, Sccp, Subsystem}
use Rattle.sccp_layout.specs.declared.parts.SplitFault.TheVariants.{Short}
use Rattle.sccp_message.specs.declared.fault.DecodeFault.TheVariants.{Split}
use Rattle.sccp_manage.specs.declared.status.StatusKind.TheVariants.{Prohibited}
use Rattle.plan_model.specs.declared.node.Node.{Node}
use Rattle.plan_model.specs.Network.{Network, network}
use Rattle.sccp_report.specs.Values.{point_code_text}
use Rattle.sccp_report.specs.Hops.{destination_text, mark_text, next_mark_text, marks_text, node_text}
use Rattle.relay_ways.specs.declared.explanation.Explanation.{Explanation}
use Rattle.relay_ways.specs.declared.handling.Taken.{Taken}
use Rattle.relay_ways.specs.declared.reason.Reason.TheVariants.{CalledPoint}
use Rattle.relay_watch.specs.declared.counts.Counts.{Counts}
use Rattle.relay_watch.specs.declared.event.Event.{Event}
use Rattle.relay_watch.specs.declared.line.Line.{Line}
use Rattle.relay_watch.specs.declared.summary.Summary.{Summary}
use Rattle.relay_watch.specs.declared.tally.Tally.{Tally}
use Rattle.relay_watch.specs.declared.unanswered.Unanswered.{Unanswered}
use Rattle.relay_watch.specs.declared.verdict.Verdict.{Verdict}
use Rattle.relay_watch.specs.declared.verdict.Verdict.TheVariants as verdicts
use Rattle.relay_watch.specs.declared.why.Why.TheVariants.{By, Again, NoArrival}
use Rattle.watch_text.specs.Ways.{or_mark, list_text, next_list, lists_text, condition_text, taken_text, cause_text, handling_text}
use Rattle.watch_text.specs.Ways.{way_text}
use Rattle.watch_text.specs.Ways.{or_way, ways_text, reason_words, why_words}
use Rattle.watch_text.specs.Lines.{point_text, unit_name, connection_name, kind_word, status_words, explained_words, verdict_words}
use Rattle.watch_text.specs.Lines.{packet_words}
use Rattle.watch_text.specs.Lines.{connection_word, management_word, head, unanswered_line, line_text}
use Rattle.watch_text.specs.Summaries.{counted, sent_counts, unanswered_count, other_counts, counts_line, target_line, tally_lines}
use Rattle.watch_text.specs.Summaries.{end_line, summary_text}

-- relay a at 1-0-2, and relay b at 1-0-3

abbrev node : ℕ → ℕ → Node
node name pc = record { name = name ∷ []; pc = pc; subsystems = []; concerned = []; table = [] }

abbrev plan : Network
plan = network (node 97 2050 ∷ node 98 2051 ∷ []) []

-- a UDT for 491710000012 from subsystem 8, with data 01; and its return, with cause 5
abbrev titled : List ℕ
titled = 0x09 ∷ 0x00 ∷ 0x03 ∷ 0x0E ∷ 0x12 ∷ 0x0B ∷ 0x12 ∷ 0x06 ∷ 0x00 ∷ 0x12 ∷ 0x04 ∷ 0x94 ∷ 0x71 ∷ 0x01 ∷ 0x00 ∷ 0x00 ∷ 0x21 ∷ 0x04 ∷ 0x43
    ∷ 0x01 ∷ 0x08 ∷ 0x08 ∷ 0x01 ∷ 0x01 ∷ []

abbrev returned : List ℕ
returned = 0x0A ∷ 0x05 ∷ 0x03 ∷ 0x07 ∷ 0x12 ∷ 0x04 ∷ 0x43 ∷ 0x01 ∷ 0x08 ∷ 0x08 ∷ 0x0B ∷ 0x12 ∷ 0x06 ∷ 0x00 ∷ 0x12 ∷ 0x04 ∷ 0x94 ∷ 0x71
    ∷ 0x01
    ∷ 0x00 ∷ 0x00 ∷ 0x21 ∷ 0x01 ∷ 0x01 ∷ []

abbrev event : ℕ → ℕ → ℕ → List ℕ → Event
event number origin destination octets = record { number = number; origin = origin; destination = destination; octets = octets }

abbrev line : Verdict → Line
line verdict = record { verdict = verdict; given_up = None; unanswered = None }

abbrev unanswered : ℕ → ℕ → Unanswered
unanswered number place = record { number = number; node = place }

abbrev taken : ℕ → ℕ → Taken
taken row target = record { row = row; target = target }

abbrev way : Option ℕ → Option Taken → List (List Mark) → List Mark → Explanation
way cause at one_of none_of =
    record { condition = record { one_of = one_of; none_of = none_of }; handling = record { cause = cause; taken = at } }

-- the marks of a relay, and of subsystem 6 at another point
abbrev of_relay : ℕ → List Mark
of_relay pc = PointCode pc ∷ Sccp pc ∷ []

abbrev of_end : ℕ → List Mark
of_end pc = PointCode pc ∷ Sccp pc ∷ Subsystem pc 6 ∷ []

-- the first of the lines of a UDT that arrives, that relay a hands to b, and that b brings to its second target
arrives : line_text plan None (event 1 2049 2050 titled) (line verdicts.Arrived) ≡ codes "1 from 1-0-1 to a UDT\n"
unfolding line_text head packet_words point_text point_code_text node_text verdict_words unit_name digits
arrives = refl

handed_on : line_text plan None (event 2 2050 2051 titled)
    (line (verdicts.Explained 1 (way None (Some (taken 0 0)) [] (of_relay 2051) ∷ [])))
    ≡ codes "2 from a to b UDT explained by 1 target 0/0 held none free point:1-0-3,sccp:1-0-3\n"
unfolding line_text head packet_words point_text point_code_text node_text verdict_words unit_name explained_words ways_text or_way way_text
    handling_text taken_text condition_text lists_text marks_text next_mark_text mark_text digits
handed_on = refl

second_target : line_text plan None (event 6 2051 4098 titled)
    (line (verdicts.Explained 5 (way None (Some (taken 0 1)) (of_end 4097 ∷ []) (of_end 4098) ∷ [])))
    ≡ codes "6 from b to 2-0-2 UDT explained by 5 target 0/1 held point:2-0-1|sccp:2-0-1|subsystem:2-0-1/6 free "
    ++ codes "point:2-0-2,sccp:2-0-2,subsystem:2-0-2/6\n"
unfolding line_text head packet_words point_text point_code_text node_text verdict_words unit_name explained_words ways_text or_way way_text
    handling_text taken_text condition_text lists_text list_text next_list or_mark marks_text next_mark_text mark_text destination_text
    digits
second_target = refl

-- a service message that goes directly, and one that goes by its title
direct : line_text plan None (event 2 2050 2049 returned)
    (line (verdicts.Explained 1 (way (Some 5) None (of_relay 2051 ∷ (PointCode 4099 ∷ []) ∷ []) (of_relay 2049) ∷ [])))
    ≡ codes "2 from a to 1-0-1 UDTS explained by 1 return 5 held point:1-0-3|sccp:1-0-3,point:2-0-3 free point:1-0-1,sccp:1-0-1\n"
unfolding line_text head packet_words point_text point_code_text node_text verdict_words unit_name explained_words ways_text or_way way_text
    handling_text cause_text condition_text lists_text list_text next_list or_mark marks_text next_mark_text mark_text digits
direct = refl

by_title : line_text plan None (event 4 2050 2049 returned)
    (line (verdicts.Explained 3 (way (Some 5) (Some (taken 1 0)) (of_relay 2051 ∷ (PointCode 4099 ∷ []) ∷ [])
    (PointCode 2049 ∷ Sccp 2049 ∷ Subsystem 2049 8 ∷ []) ∷ [])))
    ≡ codes "4 from a to 1-0-1 UDTS explained by 3 return 5 target 1/0 held point:1-0-3|sccp:1-0-3,point:2-0-3 free "
    ++ codes "point:1-0-1,sccp:1-0-1,subsystem:1-0-1/8\n"
unfolding line_text head packet_words point_text point_code_text node_text verdict_words unit_name explained_words ways_text or_way way_text
    handling_text cause_text taken_text condition_text lists_text list_text next_list or_mark marks_text next_mark_text mark_text
    destination_text digits
by_title = refl

-- messages that nothing explains
wrong_point : line_text plan None (event 5 2050 2051 titled) (line (verdicts.Unexplained (By 4 CalledPoint)))
    ≡ codes "5 from a to b UDT unexplained by 4 called point\n"
unfolding line_text head packet_words point_text node_text verdict_words unit_name why_words reason_words digits
wrong_point = refl

sent_again : line_text plan None (event 17 2050 2051 titled) (line (verdicts.Unexplained (Again 15)))
    ≡ codes "17 from a to b UDT unexplained again 15\n"
unfolding line_text head packet_words point_text node_text verdict_words unit_name why_words digits
sent_again = refl

unprompted : line_text plan None (event 12 2050 2051 titled) (line (verdicts.Unexplained NoArrival))
    ≡ codes "12 from a to b UDT unexplained no arrival\n"
unfolding line_text head packet_words point_text node_text verdict_words unit_name why_words digits
unprompted = refl

-- messages of management, of a user of the relay, of a connection, of other points, and what is no message

prohibited : line_text plan None (event 1 4097 2051 titled)
    (line (verdicts.Management (Some (record { kind = Prohibited; ssn = 6; pc = 4097 }))))
    ≡ codes "1 from 2-0-1 to b management ssp 2-0-1/6\n"
unfolding line_text head packet_words point_text point_code_text node_text verdict_words management_word status_words kind_word
    destination_text digits
prohibited = refl

own : line_text plan None (event 4 2050 2049 titled) (line (verdicts.Own 8)) ≡ codes "4 from a to 1-0-1 UDT own 8\n"
unfolding line_text head packet_words point_text point_code_text node_text verdict_words unit_name digits
own = refl

connection : line_text plan None (event 6 2050 2051 (0x01 ∷ [])) (line verdicts.Connection) ≡ codes "6 from a to b connection CR\n"
unfolding line_text head packet_words point_text node_text verdict_words connection_word connection_name digits
connection = refl

cut_off : line_text plan None (event 7 2049 2050 (0x09 ∷ [])) (line (verdicts.Undecodable (Split Short)))
    ≡ codes "7 from 1-0-1 to a undecodable short\n"
unfolding line_text head packet_words point_text point_code_text node_text verdict_words digits
cut_off = refl

elsewhere : line_text plan None (event 8 4097 4098 titled) (line verdicts.Other) ≡ codes "8 from 2-0-1 to 2-0-2 UDT other\n"
unfolding line_text head packet_words point_text point_code_text node_text verdict_words unit_name digits
elsewhere = refl

-- the packet is told of a message of a capture; an arrival that is given up has a line of its own
captured : line_text plan (Some 3) (event 1 2049 2050 titled)
    (record { verdict = verdicts.Arrived; given_up = None; unanswered = Some (unanswered 5 1) })
    ≡ codes "1 packet 3 from 1-0-1 to a UDT\n5 unanswered at b\n"
unfolding line_text head packet_words point_text point_code_text node_text verdict_words unit_name unanswered_line digits
captured = refl

-- the end of the capture with three messages over both relays

abbrev counts : ℕ → ℕ → ℕ → Counts
counts arrived plain markings = record {
  arrived = arrived;
  sent = arrived;
  plain = plain;
  failing = 1;
  unexplained = 0;
  unanswered = 0;
  others = 0;
  markings = markings;
}

abbrev tally : Counts → List (List ℕ) → Tally
tally c targets = record { counts = c; taken = targets; so_far = None }

abbrev summary : Summary
summary = record {
  unanswered = [];
  relays = tally (counts 3 2 2) ((2 ∷ 1 ∷ []) ∷ (0 ∷ []) ∷ []) ∷ tally (counts 2 1 2) ((1 ∷ 1 ∷ []) ∷ (0 ∷ 0 ∷ []) ∷ []) ∷ [];
  events = 8;
  unexplained = 0;
}

last_lines : summary_text plan summary
    ≡ codes "relay a arrived 3 sent 3 plain 2 failing 1 unexplained 0 unanswered 0 others 0 markings 2\n"
    ++ codes "relay a target 0/0 taken 2\nrelay a target 0/1 taken 1\nrelay a target 1/0 taken 0\n"
    ++ codes "relay b arrived 2 sent 2 plain 1 failing 1 unexplained 0 unanswered 0 others 0 markings 2\n"
    ++ codes "relay b target 0/0 taken 1\nrelay b target 0/1 taken 1\nrelay b target 1/0 taken 0\nrelay b target 1/1 taken 0\n"
    ++ codes "end 8 unexplained 0\n"
unfolding summary_text tally_lines counts_line sent_counts unanswered_count other_counts counted target_line end_line node_text digits
last_lines = refl
