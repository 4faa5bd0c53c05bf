-- The counts of three messages through two relays, computed on the definitions; and how few markings explain a few messages.
use Rattle.std.specs.Prelude.{◌≡◌, ℕ, false, ◌&&◌, List, [], ◌∷◌, ◌++◌, map, Some, None}
use Rattle.std.proofs.Common.{refl}
use Rattle.std.proofs.lemmas.List.Elements.{All-nil, All-cons}
use Rattle.sccp_base.specs.declared.mark.Mark.{Mark}
use Rattle.sccp_base.specs.declared.mark.Mark.TheVariants as marks
use Rattle.sccp_message.specs.Reading.{message_in}
use Rattle.sccp_layout.specs.Splitting.{parts_by}
use Rattle.sccp_address.specs.Reading.{address_of}
use Rattle.plan_rules.specs.Rule.{rule}
use Rattle.plan_rules.specs.declared.target.Target.TheVariants.{Relay, Final}
use Rattle.plan_model.specs.declared.node.Node.{Node}
use Rattle.plan_model.specs.Network.{Network, network}
use Rattle.relay_ways.specs.Conditions.{condition, both, is_possible}
use Rattle.relay_ways.specs.Markings.{markings, AreMet, AreParts}
use Rattle.relay_ways.specs.declared.condition.Condition.{Condition}
use Rattle.relay_watch.specs.Kept.{first_tally, left_relays}
use Rattle.relay_watch.specs.Least.{told_conditions}
use Rattle.relay_watch.specs.Totals.{how_many, is_from, says_plain, says_failing, says_taken}
use Rattle.relay_watch.specs.declared.counts.Counts.{Counts}
use Rattle.relay_watch.specs.declared.event.Event.{Event}
use Rattle.relay_watch.specs.declared.line.Line.{Line}
use Rattle.relay_watch.specs.declared.tally.Tally.{Tally}
use Rattle.relay_watch.specs.declared.verdict.Verdict.{Verdict}
use Rattle.relay_watch.specs.declared.verdict.Verdict.TheVariants.{Arrived, Explained}

-- Relay a at 1-0-2 hands 49 to relay b at 1-0-3, else to 2-0-3/6; and 43 to 1-0-1/8. Relay b hands 0 to 2-0-1/6, else to
-- 2-0-2/6; and 43 to relay a, else to 1-0-1/8.

abbrev a : Node
a = record {
  name = [];
  pc = 2050;
  subsystems = 8 ∷ [];
  concerned = [];
  table = rule (record { kind = 4; translation = 0; plan = 1; nature = 4 }) None (4 ∷ 9 ∷ [])
      (Relay 2051 2 (0 ∷ []) None None ∷ Final 4099 (Some 6) ∷ [])
      ∷ rule (record { kind = 4; translation = 0; plan = 1; nature = 4 }) None (4 ∷ 3 ∷ []) (Final 2049 (Some 8) ∷ []) ∷ [];
}

abbrev b : Node
b = record {
  name = [];
  pc = 2051;
  subsystems = [];
  concerned = [];
  table = rule (record { kind = 4; translation = 0; plan = 1; nature = 3 }) None (0 ∷ [])
      (Final 4097 (Some 6) ∷ Final 4098 (Some 6) ∷ [])
      ∷ rule (record { kind = 4; translation = 0; plan = 1; nature = 4 }) None (4 ∷ 3 ∷ [])
      (Relay 2050 0 [] None None ∷ Final 2049 (Some 8) ∷ []) ∷ [];
}

abbrev plan : Network
plan = network (a ∷ b ∷ []) []

-- UDTs from subsystem 8 at 1-0-1, with this called address and one octet of data
abbrev unit : List ℕ → ℕ → List ℕ
unit called octet =
    0x09 ∷ 0x00 ∷ 0x03 ∷ 0x0E ∷ 0x12 ∷ 0x0B ∷ [] ++ called ++ 0x04 ∷ 0x43 ∷ 0x01 ∷ 0x08 ∷ 0x08 ∷ 0x01 ∷ octet ∷ []

-- the title 491710000012, the same at 2-0-3, and the title 01710000012 and the same at a destination
abbrev titled : List ℕ
titled = 0x12 ∷ 0x06 ∷ 0x00 ∷ 0x12 ∷ 0x04 ∷ 0x94 ∷ 0x71 ∷ 0x01 ∷ 0x00 ∷ 0x00 ∷ 0x21 ∷ []

abbrev ended : List ℕ
ended = 0x52 ∷ 0x06 ∷ 0x00 ∷ 0x12 ∷ 0x04 ∷ 0x94 ∷ 0x71 ∷ 0x01 ∷ 0x00 ∷ 0x00 ∷ 0x21 ∷ []

abbrev national : List ℕ
national = 0x12 ∷ 0x06 ∷ 0x00 ∷ 0x11 ∷ 0x03 ∷ 0x10 ∷ 0x17 ∷ 0x00 ∷ 0x00 ∷ 0x10 ∷ 0x02 ∷ []

abbrev national_ended : List ℕ
national_ended = 0x52 ∷ 0x06 ∷ 0x00 ∷ 0x11 ∷ 0x03 ∷ 0x10 ∷ 0x17 ∷ 0x00 ∷ 0x00 ∷ 0x10 ∷ 0x02 ∷ []

abbrev event : ℕ → ℕ → ℕ → List ℕ → Event
event number origin destination octets = record { number = number; origin = origin; destination = destination; octets = octets }

abbrev events : List Event
events =
    event 1 2049 2050 (unit titled 1) ∷ event 2 2050 2051 (unit national 1) ∷ event 3 2051 4097 (unit national_ended 1)
    ∷ event 4 2049 2050 (unit titled 2) ∷ event 5 2050 2051 (unit national 2) ∷ event 6 2051 4098 (unit national_ended 2)
    ∷ event 7 2049 2050 (unit titled 3) ∷ event 8 2050 4099 (unit ended 3) ∷ []

-- ---- what the relays must hold for each target

abbrev at_destination : ℕ → List Mark
at_destination pc = marks.PointCode pc ∷ marks.Sccp pc ∷ marks.Subsystem pc 6 ∷ []

abbrev b_marks : List Mark
b_marks = marks.PointCode 2051 ∷ marks.Sccp 2051 ∷ []

abbrev by_b : Condition
by_b = condition [] b_marks

abbrev by_own : Condition
by_own = condition (b_marks ∷ []) (at_destination 4099)

abbrev by_first : Condition
by_first = condition [] (at_destination 4097)

abbrev by_second : Condition
by_second = condition (at_destination 4097 ∷ []) (at_destination 4098)

abbrev explained : ℕ → Condition → ℕ → Verdict
explained number c target =
    Explained number (record {
      condition = c;
      handling = record
          { cause = None; taken = Some (record { row = 0; target = target }) };
    } ∷ [])

abbrev line : Verdict → Line
line v = record { verdict = v; given_up = None; unanswered = None }

abbrev lines : List Line
lines =
    line Arrived ∷ line (explained 1 by_b 0) ∷ line (explained 2 by_first 0)
    ∷ line Arrived ∷ line (explained 4 by_b 0) ∷ line (explained 5 by_second 1)
    ∷ line Arrived ∷ line (explained 7 by_own 1) ∷ []

-- ---- the counts

abbrev after : List Event → List Line → List Tally → List Tally
after [] ls relays = relays
after (e ∷ es) [] relays = relays
after (e ∷ es) (l ∷ ls) relays = after es ls (left_relays plan e l.verdict l.unanswered relays)

abbrev left : List Tally
left = after events lines (map first_tally plan.nodes)

abbrev counts : ℕ → ℕ → ℕ → ℕ → ℕ → Counts
counts arrived sent plain failing markings = record {
  arrived = arrived;
  sent = sent;
  plain = plain;
  failing = failing;
  unexplained = 0;
  unanswered = 0;
  others = 0;
  markings = markings;
}

all_counts : map (λ t. t.counts) left ≡ counts 3 3 2 1 2 ∷ counts 2 2 1 1 2 ∷ []
unfolding message_in parts_by address_of
all_counts = refl

all_taken : map (λ t. t.taken) left ≡ ((2 ∷ 1 ∷ []) ∷ (0 ∷ []) ∷ []) ∷ ((1 ∷ 1 ∷ []) ∷ (0 ∷ 0 ∷ []) ∷ []) ∷ []
unfolding message_in parts_by address_of
all_taken = refl

-- the numbers of lines
plain_lines : how_many (λ e l. is_from plan 0 e && says_plain l.verdict) events lines ≡ 2
plain_lines = refl

failing_lines : how_many (λ e l. is_from plan 0 e && says_failing l.verdict) events lines ≡ 1
failing_lines = refl

taken_lines : how_many (λ e l. is_from plan 0 e && says_taken 0 0 l.verdict) events lines ≡ 2
taken_lines = refl

-- ---- the markings

-- relay a: two messages by b, and one that only another marking explains
told : told_conditions plan 0 events lines ≡ by_b ∷ by_b ∷ by_own ∷ []
told = refl

two : markings (told_conditions plan 0 events lines) ≡ 2
two = refl

two_of_b : markings (told_conditions plan 1 events lines) ≡ 2
two_of_b = refl

-- a cut into two parts: nothing held for the first two messages, and b's point for the third
two_parts : AreParts (told_conditions plan 0 events lines) ((by_b ∷ by_b ∷ []) ∷ (by_own ∷ []) ∷ [])
two_parts = record {
  whole = refl;
  met = All-cons AreMet (by_b ∷ by_b ∷ []) ((by_own ∷ []) ∷ []) ([], refl)
      (All-cons AreMet (by_own ∷ []) [] (marks.PointCode 2051 ∷ [], refl) (All-nil AreMet));
}

-- and none into one part, since no marking meets the last two together
none_meets_both : is_possible (both by_b by_own) ≡ false
none_meets_both = refl

-- a relay that shares its load between targets in an order: as many as there are messages
six : markings (by_first ∷ by_second ∷ by_first ∷ by_second ∷ by_first ∷ by_second ∷ []) ≡ 6
six = refl

-- Another target does not begin another marking: with b's point held, a relay sends 49 to 2-0-3 and 43 to 1-0-1.
other_targets : markings (by_own ∷ condition [] (marks.PointCode 2049 ∷ marks.Sccp 2049 ∷ marks.Subsystem 2049 8 ∷ []) ∷ by_own
    ∷ []) ≡ 1
other_targets = refl

-- nor does another mark of the same list, if one mark is left that all may hold
one_mark_left : markings (by_own ∷ condition [] (marks.Sccp 2051 ∷ []) ∷ []) ≡ 1
one_mark_left = refl

-- none is left
no_mark_left : markings (by_own ∷ condition [] (marks.Sccp 2051 ∷ []) ∷ condition [] (marks.PointCode 2051 ∷ []) ∷ []) ≡ 2
no_mark_left = refl
