-- The trace of which a load is the replay, and what is counted of a replay.
use Rattle.std.specs.Prelude.{ℕ, zero, suc, ◌+◌, ◌%◌, ◌==◌, if◌then◌else◌, List, [], ◌∷◌, ◌++◌, length, codes, decimal}
use Rattle.made_load.specs.Draws.{after, drawn, after_digits}
use Rattle.made_load.specs.Loads.{counted, drawn_relay, drawn_point, no_counts}
use Rattle.made_load.specs.Messages.{made_octets, origin}
use Rattle.made_load.specs.Relays.{load_plan}
use Rattle.made_load.specs.declared.counts.Counts.{Counts}
use Rattle.plan_model.specs.Network.{Network}
use Rattle.relay_net.specs.Journeys.{held_at, journey}
use Rattle.sccp_base.specs.Marks.{holds}
use Rattle.sccp_base.specs.declared.mark.Mark.TheVariants.{PointCode}
use Rattle.sccp_replay.specs.Holding.{held_after}
use Rattle.sccp_report.specs.Roles.{Role, routed, role_of}
use Rattle.trace_text.specs.declared.line.Line.{Line}
use Rattle.trace_text.specs.declared.line.Line.TheVariants.{Msg, Pause, Resume}
use Rattle.trace_text.specs.declared.line.Numbered.{Numbered}

-- ---- the trace

-- the lines that were made so far, and the number that the draws have reached
pub record Made : Type 0 where
  pub at : ℕ
  pub lines : List Numbered

abbrev pub relay_name : ℕ → List ℕ
relay_name i = codes "n" ++ decimal i

-- one more line
abbrev pub with_line : Line → List Numbered → List Numbered
with_line line lines = lines ++ record { number = length lines + 1; line = line } ∷ []

-- a relay loses a point or, if the lines before leave it lost there, finds it again
abbrev pub turn_line : Network → List Numbered → ℕ → ℕ → Line
turn_line plan lines node pc =
    if holds (held_at (held_after plan lines) node) (PointCode pc) then Resume (relay_name node) pc else Pause (relay_name node) pc

abbrev pub with_turn : Network → ℕ → List Numbered → List Numbered
with_turn plan value lines = with_line (turn_line plan lines (drawn_relay value) (drawn_point value)) lines

-- before every sixty-fourth message a drawn relay loses or finds a drawn destination
abbrev pub before_line : Network → ℕ → Made → Made
before_line plan i m =
    if i % 64 == 63 then record { at = after m.at; lines = with_turn plan (drawn m.at) m.lines } else m

-- the message at this place, whose ten digits are drawn, arrives at the first relay
abbrev pub message_line : ℕ → Made → Made
message_line i m = record { at = after_digits 10 m.at; lines = with_line (Msg (relay_name 0) origin (made_octets i m.at)) m.lines }

-- this number of messages, from a place on
abbrev pub all_lines : Network → ℕ → ℕ → Made → Made
all_lines plan zero i m = m
all_lines plan (suc left) i m = all_lines plan left (i + 1) (message_line i (before_line plan i m))

abbrev pub no_lines : ℕ → Made
no_lines number = record { at = number; lines = [] }

-- the lines of the trace of this number of messages, for the plan of the number
unfoldable pub load_lines : ℕ → ℕ → List Numbered
load_lines number size = (all_lines (load_plan number) size 0 (no_lines number)).lines

-- ---- what is counted

-- the journey of a message that is routed, under the plan and what the relays hold prohibited after the lines before it
abbrev pub counted_role : Network → List Numbered → Role → Counts → Counts
counted_role plan before (routed x) c = counted (journey plan (held_after plan before) x.entry x.origin x.octets) c
counted_role plan before role c = c

-- what is counted of some lines after others
abbrev pub counts_after : Network → List Numbered → List Numbered → Counts → Counts
counts_after plan before [] c = c
counts_after plan before (line ∷ lines) c =
    counts_after plan (before ++ line ∷ []) lines (counted_role plan before (role_of plan line.line) c)

-- what is counted of a replay of these lines, none of which names a later plan
unfoldable pub replay_counts : Network → List Numbered → Counts
replay_counts plan lines = counts_after plan [] lines no_counts
