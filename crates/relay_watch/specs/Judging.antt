-- How a captured message is judged: what is found, the line, and what waits afterwards.
use Rattle.std.specs.Prelude.{◌≡◌, ℕ, List, Option, Some, None, option_map, Result, Ok, Err}
use Rattle.sccp_address.specs.declared.address.Address.{Address}
use Rattle.sccp_message.specs.declared.fault.DecodeFault.{DecodeFault}
use Rattle.sccp_message.specs.declared.message.Message.{Message}
use Rattle.sccp_message.specs.Reading.{reading}
use Rattle.sccp_message.specs.Unitdata.{called_of}
use Rattle.plan_model.specs.Network.{Network}
use Rattle.relay_watch.specs.Arrivals.{source, target, is_management, is_other, begins, begins_at, joined, kept, given_up}
use Rattle.relay_watch.specs.Reasons.{IsSearched}
use Rattle.relay_watch.specs.Verdicts.{without_reason, of_sent, verdict_of, by_source}
use Rattle.relay_watch.specs.Whys.{SaysWhy, IsWhyFrom, IsWhyOf}
use Rattle.relay_watch.specs.declared.answered.Answered.{Answered}
use Rattle.relay_watch.specs.declared.event.Event.{Event}
use Rattle.relay_watch.specs.declared.found.Found.{Found}
use Rattle.relay_watch.specs.declared.judged.Judged.{Judged}
use Rattle.relay_watch.specs.declared.line.Line.{Line}
use Rattle.relay_watch.specs.declared.verdict.Verdict.{Verdict}
use Rattle.relay_watch.specs.declared.waiting.Waiting.{Waiting}
use Rattle.relay_watch.specs.declared.why.Why.{Why}

-- A reason is looked for if a relay of the plan sent the message, and the message is connectionless.

abbrev pub IsFoundAt : Network → List Waiting → Event → Message → Option Found → Option ℕ → Type 0
IsFoundAt plan waiting e m found None = found ≡ None
IsFoundAt plan waiting e m found (Some node) = IsSearched plan waiting node e.destination m found

abbrev pub IsFoundBy : Network → List Waiting → Event → Message → Option Found → Option Address → Type 0
IsFoundBy plan waiting e m found None = found ≡ None
IsFoundBy plan waiting e m found (Some a) = IsFoundAt plan waiting e m found (source plan e)

abbrev pub IsFound : Network → List Waiting → Event → Option Found → Result Message DecodeFault → Type 0
IsFound plan waiting e found (Err fault) = found ≡ None
IsFound plan waiting e found (Ok m) = IsFoundBy plan waiting e m found (called_of m)

-- the place of what was found
abbrev pub place_of : Option Found → Option ℕ
place_of found = option_map (λ f. f.place) found

-- The verdict on a message with a called address, and why it is unexplained if it is: without an arrival that explains it, by what was
-- found, and by the relay that sent it.

pub record IsWithout (plan : Network) (waiting : List Waiting) (answered : List Answered) (node to : ℕ) (m : Message) (a : Address)
    (v : Verdict) : Type 0 where
  pub why : Why
  pub is : v ≡ without_reason plan node m a why
  pub says : SaysWhy plan waiting answered node to m v

pub record IsOfSent (plan : Network) (waiting : List Waiting) (answered : List Answered) (node to : ℕ) (m : Message) (a : Address)
    (found : Option Found) (v : Verdict) : Type 0 where
  pub why : Why
  pub is : v ≡ of_sent plan node m a found why
  pub says : SaysWhy plan waiting answered node to m v

pub record IsVerdict (plan : Network) (waiting : List Waiting) (answered : List Answered) (e : Event) (m : Message) (a : Address)
    (found : Option Found) (place : Option ℕ) (v : Verdict) : Type 0 where
  pub why : Why
  pub is : v ≡ by_source plan e m a found why place
  pub says : IsWhyFrom plan waiting answered e.destination m v place

-- what is said of a message with a called address before anything changes
pub record IsSaidAt (plan : Network) (waiting : List Waiting) (answered : List Answered) (e : Event) (m : Message) (a : Address)
    (j : Judged)
    : Type 0 where
  pub found : Option Found
  pub search : IsFoundAt plan waiting e m found (source plan e)
  pub why : Why
  pub verdict_is : j.verdict ≡ by_source plan e m a found why (source plan e)
  pub says_why : IsWhyFrom plan waiting answered e.destination m j.verdict (source plan e)
  pub place_is : j.place ≡ place_of found
  pub begins_is : j.begins ≡ begins_at plan e m a (target plan e)
  pub other_is : j.other ≡ is_management a

-- the same of an event, by what reading gives
pub record IsSaid (plan : Network) (waiting : List Waiting) (answered : List Answered) (e : Event) (r : Result Message DecodeFault)
    (j : Judged) : Type 0 where
  pub found : Option Found
  pub search : IsFound plan waiting e found r
  pub why : Why
  pub verdict_is : j.verdict ≡ verdict_of plan e found why r
  pub says_why : IsWhyOf plan waiting answered e r j.verdict
  pub place_is : j.place ≡ place_of found
  pub begins_is : j.begins ≡ begins plan e r
  pub other_is : j.other ≡ is_other r

-- The line of an event. A message that a relay sent is explained by the first of the waiting arrivals because of which the plan
-- lets it send that message, and this one waits no more. Then the event itself begins to wait, if something may be sent because of
-- it. If more than 16,384 arrivals would wait, the oldest is given up.
pub record IsJudged (plan : Network) (old : List Waiting) (e : Event) (line : Line) (new : List Waiting) : Type 0 where
  pub found : Option Found
  pub search : IsFound plan old e found (reading e.octets)
  pub why : Why
  pub verdict_is : line.verdict ≡ verdict_of plan e found why (reading e.octets)
  pub given_is : line.given_up ≡ given_up (joined old (place_of found) (begins plan e (reading e.octets)))
  pub left : new ≡ kept (joined old (place_of found) (begins plan e (reading e.octets)))
