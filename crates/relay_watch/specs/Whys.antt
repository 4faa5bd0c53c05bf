-- Why no arrival explains a message: the nearest reason, or the message that was there before.
use Rattle.std.specs.Prelude.{◌≡◌, ℕ, nat_eq, nat_lt, ◌==◌, ◌&&◌, Bool, if◌then◌else◌, List, [], ◌∷◌, map, take, Option, Some, None}
use Rattle.std.specs.Prelude.{slice_get}
use Rattle.std.specs.Prelude.{⊤, ◌≤◌, length, Result, Ok, Err}
use Rattle.std.specs.Cmp.Lexicographic.{pointwise}
use Rattle.std.specs.List.{All, filter}
use Rattle.sccp_message.specs.declared.fault.DecodeFault.{DecodeFault}
use Rattle.sccp_message.specs.declared.message.Message.{Message}
use Rattle.plan_model.specs.Network.{Network}
use Rattle.relay_ways.specs.WhyNot.{rank, why_not}
use Rattle.relay_ways.specs.declared.explanation.Explanation.{Explanation}
use Rattle.relay_ways.specs.declared.reason.Reason.{Reason}
use Rattle.relay_watch.specs.Arrivals.{source, data_of, IsWaiting}
use Rattle.relay_watch.specs.Kept.{most_answered}
use Rattle.relay_watch.specs.Reasons.{IsNoReason, IsReason}
use Rattle.relay_watch.specs.declared.answered.Answered.{Answered}
use Rattle.relay_watch.specs.declared.event.Event.{Event}
use Rattle.relay_watch.specs.declared.near.Near.{Near}
use Rattle.relay_watch.specs.declared.verdict.Verdict.{Verdict}
use Rattle.relay_watch.specs.declared.verdict.Verdict.TheVariants as verdicts
use Rattle.relay_watch.specs.declared.waiting.Waiting.{Waiting}
use Rattle.relay_watch.specs.declared.why.Why.{Why}
use Rattle.relay_watch.specs.declared.why.Why.TheVariants.{By, Again, NoArrival}

abbrev pub near : ℕ → Reason → Near
near number reason = record { number = number; reason = reason }

-- a waiting arrival at the relay has the message's data
abbrev pub has_data : ℕ → Message → Waiting → Bool
has_data node sent w = (w.node == node) && pointwise nat_eq w.payload (data_of sent)

-- the first test that the message fails, of those on the waiting arrival
abbrev pub near_of : Network → ℕ → ℕ → Message → Waiting → Near
near_of plan node to sent w = near w.number (why_not plan node w.origin w.octets to sent)

-- the one that passes more tests, and of equal ones the first
abbrev pub nearer : Option Near → Near → Option Near
nearer None b = Some b
nearer (Some a) b = if nat_lt (rank a.reason) (rank b.reason) then Some b else Some a

abbrev pub nearest_of : Option Near → List Near → Option Near
nearest_of best [] = best
nearest_of best (x ∷ xs) = nearest_of (nearer best x) xs

-- of the waiting arrivals with the message's data the nearest one
unfoldable pub nearest : Network → List Waiting → ℕ → ℕ → Message → Option Near
nearest plan waiting node to sent = nearest_of None (map (near_of plan node to sent) (filter (has_data node sent) waiting))

-- the answered arrival is none because of which the relay at this place sends the message
abbrev pub IsNoAnswered : Network → ℕ → ℕ → Message → Answered → Type 0
IsNoAnswered plan node to sent x = IsNoReason plan node to sent x.arrival

-- the first of the answered arrivals because of which the relay sends the message was answered by the message with that number
pub record IsAgain (plan : Network) (answered : List Answered) (node to : ℕ) (sent : Message) (number : ℕ) : Type 0 where
  pub place : ℕ
  pub one : Answered
  pub at : slice_get answered place ≡ Some one
  pub numbered : one.by ≡ number
  pub ways : List Explanation
  pub reason : IsReason plan node to sent one.arrival ways
  pub first : All (IsNoAnswered plan node to sent) (take place answered)

-- what the search among the answered arrivals gives
abbrev pub IsFoundAgain : Network → List Answered → ℕ → ℕ → Message → Option ℕ → Type 0
IsFoundAgain plan answered node to sent (Some number) = IsAgain plan answered node to sent number
IsFoundAgain plan answered node to sent None = All (IsNoAnswered plan node to sent) answered

-- the octets of an answered arrival are a message with its data
abbrev pub IsOfWaiting : Answered → Type 0
IsOfWaiting x = IsWaiting x.arrival

pub record AreAnswered (xs : List Answered) : Type 0 where
  pub each : All IsOfWaiting xs
  pub few : length xs ≤ most_answered

-- why the message is unexplained, if no waiting arrival with its data is nearest
abbrev pub IsWhyAgain : Network → List Answered → ℕ → ℕ → Message → Why → Type 0
IsWhyAgain plan answered node to sent (By number reason) = ⊥
IsWhyAgain plan answered node to sent (Again number) = IsAgain plan answered node to sent number
IsWhyAgain plan answered node to sent NoArrival = All (IsNoAnswered plan node to sent) answered

abbrev pub IsWhyBy : Network → List Answered → ℕ → ℕ → Message → Why → Option Near → Type 0
IsWhyBy plan answered node to sent why (Some n) = why ≡ By n.number n.reason
IsWhyBy plan answered node to sent why None = IsWhyAgain plan answered node to sent why

-- why a message that the relay at this place sent is unexplained
abbrev pub IsWhy : Network → List Waiting → List Answered → ℕ → ℕ → Message → Why → Type 0
IsWhy plan waiting answered node to sent why = IsWhyBy plan answered node to sent why (nearest plan waiting node to sent)

-- if a verdict on a message that the relay at this place sent is that it is unexplained, it says why
abbrev pub SaysWhy : Network → List Waiting → List Answered → ℕ → ℕ → Message → Verdict → Type 0
SaysWhy plan waiting answered node to sent (verdicts.Undecodable fault) = ⊤
SaysWhy plan waiting answered node to sent verdicts.Connection = ⊤
SaysWhy plan waiting answered node to sent verdicts.Other = ⊤
SaysWhy plan waiting answered node to sent verdicts.Arrived = ⊤
SaysWhy plan waiting answered node to sent (verdicts.Explained by ways) = ⊤
SaysWhy plan waiting answered node to sent (verdicts.Management status) = ⊤
SaysWhy plan waiting answered node to sent (verdicts.Own ssn) = ⊤
SaysWhy plan waiting answered node to sent (verdicts.Unexplained why) = IsWhy plan waiting answered node to sent why

-- the same of an event, by the relay that sent it and by what reading gives

abbrev pub IsWhyFrom : Network → List Waiting → List Answered → ℕ → Message → Verdict → Option ℕ → Type 0
IsWhyFrom plan waiting answered to sent v None = ⊤
IsWhyFrom plan waiting answered to sent v (Some node) = SaysWhy plan waiting answered node to sent v

abbrev pub IsWhyOf : Network → List Waiting → List Answered → Event → Result Message DecodeFault → Verdict → Type 0
IsWhyOf plan waiting answered e (Err fault) v = ⊤
IsWhyOf plan waiting answered e (Ok sent) v = IsWhyFrom plan waiting answered e.destination sent v (source plan e)
