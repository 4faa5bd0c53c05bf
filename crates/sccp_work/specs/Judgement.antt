-- A judgement on captured messages, which a work asks for.
use Rattle.std.specs.Prelude.{◌≡◌, ◌<◌, ◌≤◌, ◌+◌, ◌-◌, ◌^◌, ℕ, List, [], length, Some, slice_get}
use Rattle.plan_model.specs.Network.{Network, IsPlan}
use Rattle.plan_model.specs.declared.node.Node.{Node}
use Rattle.relay_ways.specs.Markings.{AreParts}
use Rattle.relay_ways.specs.declared.condition.Condition.{Condition}
use Rattle.relay_watch.specs.Kept.{Kept, nothing_kept, summary_of, is_unexplained}
use Rattle.relay_watch.specs.Least.{told_conditions}
use Rattle.relay_watch.specs.Runs.{AreJudged, HasArrived, GivesUp, IsUnused, NumbersDiffer}
use Rattle.relay_watch.specs.Totals.{how_many, stopped, AreCounts, AreTaken}
use Rattle.relay_watch.specs.Watching.{AreWatched}
use Rattle.relay_watch.specs.declared.event.Event.{Event}
use Rattle.relay_watch.specs.declared.line.Line.{Line}
use Rattle.relay_watch.specs.declared.tally.Tally.{Tally}
use Rattle.relay_watch.specs.declared.waiting.Waiting.{Waiting}

-- a line for each message, and what is kept after the last one
pub record Judgement : Type 0 where
  pub lines : List Line
  pub left : Kept

-- the relay at this place has these counts at the end
abbrev pub HasTally : Judgement → ℕ → Tally → Type 0
HasTally j node t = slice_get (summary_of j.left).relays node ≡ Some t

-- The counts at the end are those of the lines. A count stops at 2^64 - 1.
pub record AreCounted (plan : Network) (events : List Event) (j : Judgement) : Type 0 where
  -- each relay of the plan has counts; all messages are counted, and those that are unexplained
  pub relays_are : length (summary_of j.left).relays ≡ length plan.nodes
  pub events_are : (summary_of j.left).events ≡ stopped (length events)
  pub unexplained_are : (summary_of j.left).unexplained ≡ stopped (how_many (λ e line. is_unexplained line.verdict) events j.lines)
  -- of a relay; what it sent is the plain, the failing and the unexplained messages together
  pub counts : (node : ℕ) (t : Tally) → HasTally j node t
      → AreCounts plan node events j.lines (summary_of j.left).unanswered t.counts
  pub sum : (node : ℕ) (t : Tally) → HasTally j node t → t.counts.sent < 2 ^ 64 - 1
      → t.counts.sent ≡ t.counts.plain + t.counts.failing + t.counts.unexplained
  -- how often each target of its rows was taken
  pub targets : (node : ℕ) (relay : Node) (t : Tally) → slice_get plan.nodes node ≡ Some relay → HasTally j node t
      → AreTaken plan node relay.table events j.lines t.taken
  -- Its markings are the least number, one after the other, under which it sends all its explained messages by the first way that is
  -- told of each. Whoever cuts the conditions of these ways into parts, each of which one marking meets, has no fewer parts. Some cut
  -- has as many.
  pub least : (node : ℕ) (t : Tally) (parts : List (List Condition)) → HasTally j node t
      → AreParts (told_conditions plan node events j.lines) parts → t.counts.markings ≤ length parts
  pub reached : (node : ℕ) (t : Tally) → HasTally j node t → (parts : List (List Condition))
      × AreParts (told_conditions plan node events j.lines) parts × (t.counts.markings ≡ stopped (length parts))

-- An arrival that still waits at the end, or that a line gives up, is that of a message, and it is due if its relay sends something
-- because of it with nothing prohibited. If no two messages have the same number, no line explains a message by it.
pub record AreLeft (plan : Network) (events : List Event) (j : Judgement) : Type 0 where
  pub waits : (k : ℕ) (w : Waiting) → slice_get j.left.waiting k ≡ Some w
      → HasArrived plan events w × (NumbersDiffer events → IsUnused w.number j.lines)
  pub given : (k : ℕ) (w : Waiting) → GivesUp j.lines k w
      → HasArrived plan events w × (NumbersDiffer events → IsUnused w.number j.lines)

-- it is what a watch says of these messages, from the first one on
pub record IsJudgement (plan : Network) (events : List Event) (j : Judgement) : Type 0 where
  pub judged : AreJudged plan [] events j.lines j.left.waiting
  pub watched : AreWatched plan (nothing_kept plan) events j.lines j.left
  pub unanswered : AreLeft plan events j
  pub counted : AreCounted plan events j

-- a plan, and a judgement on messages of its relays
abbrev pub IsHeard : Network → List Event → Judgement → Type 0
IsHeard plan events j = IsPlan plan × IsJudgement plan events j
