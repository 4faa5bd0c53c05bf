-- What a judgement says of the messages, in a reader's words.
use Rattle.std.specs.Prelude.{◌≡◌, ◌<◌, ℕ, true, List, [], Some, is_some, slice_get, Ok}
use Rattle.plan_model.specs.Network.{Network}
use Rattle.relay_watch.specs.Arrivals.{source, target}
use Rattle.relay_watch.specs.Kept.{summary_of}
use Rattle.relay_watch.specs.Reasons.{NeverSends}
use Rattle.relay_watch.specs.Runs.{HasVerdict, HasReason, IsUnnamed, IsUnused, lacks_reason}
use Rattle.relay_watch.specs.declared.event.Event.{Event}
use Rattle.relay_watch.specs.declared.line.Line.{Line}
use Rattle.relay_watch.specs.declared.unanswered.Unanswered.{Unanswered}
use Rattle.relay_watch.specs.declared.verdict.Verdict.{Verdict}
use Rattle.relay_watch.specs.declared.verdict.Verdict.TheVariants.{Explained}
use Rattle.relay_ways.specs.Sends.{sends}
use Rattle.relay_ways.specs.declared.explanation.Explanation.{Explanation}
use Rattle.watch_items.specs.Captures.{Heard}
use Rattle.watch_items.specs.Files.{heard_in}
use Rattle.watch_items.specs.Items.{events_in}
use Rattle.sccp_message.specs.declared.message.Message.{Message}
use Rattle.sccp_message.specs.Reading.{reading}
use Rattle.sccp_work.specs.Judgement.{Judgement, IsJudgement}

-- An arrival that nothing answered: the message with that number arrived at that relay. By the plan this relay sends something because
-- of it with nothing prohibited, and no message is explained by it.
pub record IsUnanswered (plan : Network) (events : List Event) (lines : List Line) (u : Unanswered) : Type 0 where
  pub place : ℕ
  pub arrival : Event
  pub at : slice_get events place ≡ Some arrival
  pub numbered : arrival.number ≡ u.number
  pub arrives : target plan arrival ≡ Some u.node
  pub would_send : is_some (sends plan u.node [] arrival.origin arrival.octets) ≡ true
  pub unused : IsUnused u.number lines

-- What a judgement says is true.
pub record AreTrue (plan : Network) (events : List Event) (j : Judgement) : Type 0 where
  -- A message that is explained by K was sent because of the message K: the plan has that relay send it to that point because of K
  -- exactly under the markings that meet a condition of the line, and there is such a marking.
  pub explained : (i by : ℕ) (e : Event) (ways : List Explanation) → slice_get events i ≡ Some e
      → HasVerdict j.lines i (Explained by ways) → HasReason plan events i e by ways
  -- no two messages are explained by one arrival
  pub once : (i k by : ℕ) (ways others : List Explanation) → HasVerdict j.lines i (Explained by ways)
      → HasVerdict j.lines k (Explained by others) → i ≡ k
  -- The plan has the relay send an unexplained message because of no earlier arrival, under no marking, but for arrivals that
  -- explain an earlier message or were given up.
  pub unexplained : (i k node : ℕ) (e a : Event) (v : Verdict) (sent : Message) → HasVerdict j.lines i v → lacks_reason v ≡ true
      → slice_get events i ≡ Some e → source plan e ≡ Some node → reading e.octets ≡ Ok sent → k < i
      → slice_get events k ≡ Some a → target plan a ≡ Some node → IsUnnamed a.number j.lines i
      → NeverSends plan node a.origin a.octets e.destination sent
  -- an arrival that is reported unanswered, when it is given up or at the end, is so
  pub given_up : (i : ℕ) (line : Line) (u : Unanswered) → slice_get j.lines i ≡ Some line → line.unanswered ≡ Some u
      → IsUnanswered plan events j.lines u
  pub unanswered : (i : ℕ) (u : Unanswered) → slice_get (summary_of j.left).unanswered i ≡ Some u → IsUnanswered plan events j.lines u

-- the file reads, and this holds of a judgement on its messages
abbrev pub HasJudgement : Network → List ℕ → (Judgement → Type 0) → Type 0
HasJudgement plan octets holds =
    (h : Heard) × (heard_in octets ≡ Ok h) × ((j : Judgement) × IsJudgement plan (events_in h.items) j × holds j)
