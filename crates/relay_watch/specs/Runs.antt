-- Events that are judged one after the other, and what their lines say of them.
use Rattle.std.specs.Prelude.{◌≡◌, ◌≢◌, ◌<◌, ℕ, Bool, true, false, ◌||◌, ◌==◌, List, [], ◌∷◌, take, Option, Some, None, slice_get}
use Rattle.std.specs.Prelude.{IsSomeAnd}
use Rattle.std.specs.Prelude.{Ok, is_some}
use Rattle.std.specs.List.{AllPairs, list_any}
use Rattle.sccp_message.specs.declared.message.Message.{Message}
use Rattle.sccp_message.specs.Reading.{reading}
use Rattle.plan_model.specs.Network.{Network}
use Rattle.relay_ways.specs.Sends.{sends}
use Rattle.relay_ways.specs.declared.explanation.Explanation.{Explanation}
use Rattle.relay_watch.specs.Arrivals.{source, target}
use Rattle.relay_watch.specs.Judging.{IsJudged}
use Rattle.relay_watch.specs.Reasons.{SendsUnder}
use Rattle.relay_watch.specs.declared.event.Event.{Event}
use Rattle.relay_watch.specs.declared.line.Line.{Line}
use Rattle.relay_watch.specs.declared.verdict.Verdict.{Verdict}
use Rattle.relay_watch.specs.declared.verdict.Verdict.TheVariants.{Undecodable, Connection, Other, Arrived, Explained, Management, Own}
use Rattle.relay_watch.specs.declared.verdict.Verdict.TheVariants.{Unexplained}
use Rattle.relay_watch.specs.declared.waiting.Waiting.{Waiting}

-- a line for each event, from these that wait to those
abbrev pub AreJudged : Network → List Waiting → List Event → List Line → List Waiting → Type 0
AreJudged plan old [] [] new = new ≡ old
AreJudged plan old [] (line ∷ lines) new = ⊥
AreJudged plan old (e ∷ events) [] new = ⊥
AreJudged plan old (e ∷ events) (line ∷ lines) new =
    (next : List Waiting) × IsJudged plan old e line next × AreJudged plan next events lines new

-- the line at a place has this verdict
abbrev pub HasVerdict : List Line → ℕ → Verdict → Type 0
HasVerdict lines i v = IsSomeAnd (slice_get lines i) (λ line. line.verdict ≡ v)

-- no two events have the same number
abbrev pub NumbersDiffer : List Event → Type 0
NumbersDiffer events = AllPairs (λ a b. a.number ≢ b.number) events

-- The event with that number is an earlier one. It arrived at the relay that sent this event's message, which the plan has it send
-- because of that one exactly under the markings that meet a condition of the ways; and there is such a marking.
pub record HasReason (plan : Network) (events : List Event) (i : ℕ) (e : Event) (by : ℕ) (ways : List Explanation) : Type 0 where
  pub place : ℕ
  pub earlier : place < i
  pub arrival : Event
  pub at : slice_get events place ≡ Some arrival
  pub numbered : arrival.number ≡ by
  pub node : ℕ
  pub arrives : target plan arrival ≡ Some node
  pub sent : source plan e ≡ Some node
  pub message : Message
  pub reads : reading e.octets ≡ Ok message
  pub under : SendsUnder plan node arrival.origin arrival.octets e.destination message ways

-- An arrival that waits or is given up is that of an event, at the relay that this one is for. It is due if the relay sends something
-- because of it with nothing prohibited.
pub record HasArrived (plan : Network) (events : List Event) (w : Waiting) : Type 0 where
  pub place : ℕ
  pub event : Event
  pub at : slice_get events place ≡ Some event
  pub numbered : w.number ≡ event.number
  pub arrives : target plan event ≡ Some w.node
  pub due_is : w.due ≡ is_some (sends plan w.node [] event.origin event.octets)

-- the line at a place gives this arrival up
abbrev pub GivesUp : List Line → ℕ → Waiting → Type 0
GivesUp lines i w = IsSomeAnd (slice_get lines i) (λ line. line.given_up ≡ Some w)

-- no line explains its message by the arrival with that number
abbrev pub IsUnused : ℕ → List Line → Type 0
IsUnused n lines = (i : ℕ) (ways : List Explanation) → HasVerdict lines i (Explained n ways) → ⊥

-- a relay sent the message, and no arrival explains it
abbrev pub lacks_reason : Verdict → Bool
lacks_reason (Undecodable fault) = false
lacks_reason Connection = false
lacks_reason Other = false
lacks_reason Arrived = false
lacks_reason (Explained by ways) = false
lacks_reason (Management status) = true
lacks_reason (Own ssn) = true
lacks_reason (Unexplained why) = true

-- a line explains its message by the arrival with that number, or gives that one up
abbrev pub explains : ℕ → Verdict → Bool
explains n (Explained by ways) = by == n
explains n v = false

abbrev pub gives_up : ℕ → Option Waiting → Bool
gives_up n None = false
gives_up n (Some w) = w.number == n

abbrev pub names : ℕ → Line → Bool
names n line = explains n line.verdict || gives_up n line.given_up

-- none of the lines before that place does
abbrev pub IsUnnamed : ℕ → List Line → ℕ → Type 0
IsUnnamed n lines i = list_any (names n) (take i lines) ≡ false
