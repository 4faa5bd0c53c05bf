-- The counts of a relay: how many messages of each kind there are, by their events and their lines.
use Rattle.std.specs.Prelude.{◌≡◌, ℕ, ◌+◌, ◌-◌, ◌^◌, min, Bool, true, false, not, ◌&&◌, ◌==◌, List, [], ◌∷◌, length, map, filter}
use Rattle.std.specs.Prelude.{Option, Some, None, slice_get}
use Rattle.std.specs.List.{zip}
use Rattle.std.specs.Option.{option_and_then}
use Rattle.sccp_message.specs.Reading.{reading}
use Rattle.plan_model.specs.Network.{Network}
use Rattle.plan_rules.specs.Rule.{Rule}
use Rattle.relay_ways.specs.declared.explanation.Explanation.{Explanation}
use Rattle.relay_ways.specs.declared.handling.Taken.{Taken}
use Rattle.relay_watch.specs.Arrivals.{source, target, is_other}
use Rattle.relay_watch.specs.Kept.{is_plain, is_unexplained}
use Rattle.relay_watch.specs.declared.counts.Counts.{Counts}
use Rattle.relay_watch.specs.declared.event.Event.{Event}
use Rattle.relay_watch.specs.declared.line.Line.{Line}
use Rattle.relay_watch.specs.declared.unanswered.Unanswered.{Unanswered}
use Rattle.relay_watch.specs.declared.verdict.Verdict.{Verdict}
use Rattle.relay_watch.specs.declared.verdict.Verdict.TheVariants.{Undecodable, Connection, Explained, Management, Own, Unexplained}

-- how many of the events, each with its line, are of a kind
abbrev pub how_many : (Event → Line → Bool) → List Event → List Line → ℕ
how_many kind events lines = length (filter (λ m. kind m.0 m.1) (zip events lines))

-- the count of n messages: it stops at the end of its type
abbrev pub stopped : ℕ → ℕ
stopped n = min n (2 ^ 64 - 1)

-- ---- the relay

abbrev pub is_here : ℕ → Option ℕ → Bool
is_here node None = false
is_here node (Some place) = place == node

-- the relay at this place of the plan sent the message
abbrev pub is_from : Network → ℕ → Event → Bool
is_from plan node e = is_here node (source plan e)

-- the message is for the relay at this place
abbrev pub is_for : Network → ℕ → Event → Bool
is_for plan node e = is_here node (target plan e)

-- ---- what the lines say

-- explained, and the relay sends it with nothing held in one of the ways
abbrev pub says_plain : Verdict → Bool
says_plain (Explained by ways) = is_plain ways
says_plain v = false

-- explained, and the relay must hold something in each of the ways
abbrev pub says_failing : Verdict → Bool
says_failing (Explained by ways) = not (is_plain ways)
says_failing v = false

-- explained or unexplained
abbrev pub says_sent : Verdict → Bool
says_sent (Explained by ways) = true
says_sent (Unexplained why) = true
says_sent v = false

-- no message, connection-oriented, of management, or of a user of the relay
abbrev pub says_other : Verdict → Bool
says_other (Undecodable fault) = true
says_other Connection = true
says_other (Management status) = true
says_other (Own ssn) = true
says_other v = false

-- the target of the first way is the one at this place of this row
abbrev pub is_target : ℕ → ℕ → Option Taken → Bool
is_target row place None = false
is_target row place (Some t) = (t.row == row) && (t.target == place)

abbrev pub goes_by : ℕ → ℕ → List Explanation → Bool
goes_by row place [] = false
goes_by row place (w ∷ ws) = is_target row place w.handling.taken

abbrev pub says_taken : ℕ → ℕ → Verdict → Bool
says_taken row place (Explained by ways) = goes_by row place ways
says_taken row place v = false

-- an arrival at the relay is unanswered
abbrev pub is_unanswered : ℕ → Option Unanswered → Bool
is_unanswered node None = false
is_unanswered node (Some u) = u.node == node

-- ---- the counts

-- The counts of the relay at this place. `others` counts a message at the relay that sent it and at the relay that it is for. Of
-- the unanswered arrivals some are in lines, and the last ones in none, since they still wait at the end.
pub record AreCounts (plan : Network) (node : ℕ) (events : List Event) (lines : List Line) (last : List Unanswered) (c : Counts)
    : Type 0 where
  pub arrived_is : c.arrived ≡ stopped (how_many (λ e line. is_for plan node e && not (is_other (reading e.octets))) events lines)
  pub sent_is : c.sent ≡ stopped (how_many (λ e line. is_from plan node e && says_sent line.verdict) events lines)
  pub plain_is : c.plain ≡ stopped (how_many (λ e line. is_from plan node e && says_plain line.verdict) events lines)
  pub failing_is : c.failing ≡ stopped (how_many (λ e line. is_from plan node e && says_failing line.verdict) events lines)
  pub unexplained_is : c.unexplained
      ≡ stopped (how_many (λ e line. is_from plan node e && is_unexplained line.verdict) events lines)
  pub unanswered_is : c.unanswered ≡ stopped (how_many (λ e line. is_unanswered node line.unanswered) events lines
      + length (filter (λ u. u.node == node) last))
  pub others_is : c.others ≡ stopped (how_many (λ e line. is_from plan node e && says_other line.verdict) events lines
      + how_many (λ e line. is_for plan node e && is_other (reading e.octets)) events lines)

-- the count of the target at this place of that row
abbrev pub count_at : List (List ℕ) → ℕ → ℕ → Option ℕ
count_at taken row place = option_and_then (λ counts. slice_get counts place) (slice_get taken row)

-- How often each target of the relay's table was taken. There is a count for each target of each row.
pub record AreTaken (plan : Network) (node : ℕ) (table : List Rule) (events : List Event) (lines : List Line)
    (taken : List (List ℕ)) : Type 0 where
  pub shape : map (λ counts. length counts) taken ≡ map (λ r. length r.targets) table
  pub each : (row place count : ℕ) → count_at taken row place ≡ Some count
      → count ≡ stopped (how_many (λ e line. is_from plan node e && says_taken row place line.verdict) events lines)
