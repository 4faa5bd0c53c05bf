-- Why messages are unexplained, over events that are judged one after the other.
use Rattle.std.specs.Prelude.{◌≡◌, ◌<◌, ◌≤◌, ℕ, Bool, not, List, take, Some, slice_get}
use Rattle.std.specs.Prelude.{Ok}
use Rattle.std.specs.List.{All, filter, filter_map, list_any}
use Rattle.sccp_message.specs.declared.message.Message.{Message}
use Rattle.sccp_message.specs.Reading.{reading}
use Rattle.plan_model.specs.Network.{Network}
use Rattle.relay_ways.specs.WhyNot.{rank, why_not}
use Rattle.relay_ways.specs.declared.explanation.Explanation.{Explanation}
use Rattle.relay_ways.specs.declared.reason.Reason.{Reason}
use Rattle.relay_watch.specs.Arrivals.{source, begins, data_of}
use Rattle.relay_watch.specs.Runs.{HasVerdict, HasReason, names}
use Rattle.relay_watch.specs.declared.event.Event.{Event}
use Rattle.relay_watch.specs.declared.line.Line.{Line}
use Rattle.relay_watch.specs.declared.verdict.Verdict.TheVariants.{Explained}
use Rattle.relay_watch.specs.declared.waiting.Waiting.{Waiting}

-- ---- the arrivals that wait before a message

-- the arrivals of these events because of which a relay may send something, in their order
abbrev pub arrivals_of : Network → List Event → List Waiting
arrivals_of plan events = filter_map (λ e. begins plan e (reading e.octets)) events

-- none of these lines explains its message by the arrival, or gives it up
abbrev pub is_unnamed : List Line → Waiting → Bool
is_unnamed lines w = not (list_any (names w.number) lines)

-- the arrivals of the events before that place, in their order, without those that an earlier line names
abbrev pub waiting_before : Network → List Event → List Line → ℕ → List Waiting
waiting_before plan events lines i = filter (is_unnamed (take i lines)) (arrivals_of plan (take i events))

-- ---- the reason

-- the arrival is at the relay and has the message's data
abbrev pub Shares : ℕ → Message → Waiting → Type 0
Shares node sent w = (w.node ≡ node) × (w.payload ≡ data_of sent)

-- the first test that the message fails, of those on what the plan would have the relay send because of the arrival
abbrev pub failed : Network → ℕ → ℕ → Message → Waiting → Reason
failed plan node to sent w = why_not plan node w.origin w.octets to sent

-- The arrival with that number is nearest to a message which the relay at this place sent to a point. It is there and has the message's
-- data, and this is the first test that the message fails. Of the others that are there and have the data none passes more tests, and
-- no earlier one as many.
pub record IsNearest (plan : Network) (arrivals : List Waiting) (node to : ℕ) (sent : Message) (number : ℕ) (reason : Reason)
    : Type 0 where
  pub place : ℕ
  pub arrival : Waiting
  pub at : slice_get arrivals place ≡ Some arrival
  pub numbered : arrival.number ≡ number
  pub shares : Shares node sent arrival
  pub reason_is : reason ≡ failed plan node to sent arrival
  pub most : All (λ w. Shares node sent w → rank (failed plan node to sent w) ≤ rank reason) arrivals
  pub first : All (λ w. Shares node sent w → rank (failed plan node to sent w) < rank reason) (take place arrivals)

-- a relay sent the message of the event, and of the arrivals that wait before it the one with that number is nearest
pub record HasNearest (plan : Network) (events : List Event) (lines : List Line) (i : ℕ) (e : Event) (number : ℕ) (reason : Reason)
    : Type 0 where
  pub node : ℕ
  pub sent : source plan e ≡ Some node
  pub message : Message
  pub reads : reading e.octets ≡ Ok message
  pub nearest : IsNearest plan (waiting_before plan events lines i) node e.destination message number reason

-- a relay sent the message of the event, and no arrival that waits there before it has its data
pub record HasNone (plan : Network) (events : List Event) (lines : List Line) (i : ℕ) (e : Event) : Type 0 where
  pub node : ℕ
  pub sent : source plan e ≡ Some node
  pub message : Message
  pub reads : reading e.octets ≡ Ok message
  pub none : All (λ w. Shares node message w → ⊥) (waiting_before plan events lines i)

-- The event with that number is an earlier one, and its line explains its message by an arrival. Because of that arrival the plan has the
-- relay send the message of this event too, under some marking.
pub record WasAnswered (plan : Network) (events : List Event) (lines : List Line) (i : ℕ) (e : Event) (number : ℕ) : Type 0 where
  pub place : ℕ
  pub earlier : place < i
  pub answer : Event
  pub at : slice_get events place ≡ Some answer
  pub numbered : answer.number ≡ number
  pub by : ℕ
  pub told : List Explanation
  pub explains : HasVerdict lines place (Explained by told)
  pub ways : List Explanation
  pub reason : HasReason plan events i e by ways
