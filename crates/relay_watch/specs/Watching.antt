-- What a watch says of a captured message, and what it keeps afterwards; and the same of messages one after the other.
use Rattle.std.specs.Prelude.{◌≡◌, List, [], ◌∷◌, ◌++◌, Option}
use Rattle.std.specs.Option.{option_to_list}
use Rattle.sccp_message.specs.Reading.{reading}
use Rattle.plan_model.specs.Network.{Network}
use Rattle.relay_watch.specs.Arrivals.{begins, joined, kept, given_up}
use Rattle.relay_watch.specs.Judging.{IsFound, place_of}
use Rattle.relay_watch.specs.Kept as keeping
use Rattle.relay_watch.specs.Kept.{Kept}
use Rattle.relay_watch.specs.Verdicts.{verdict_of}
use Rattle.relay_watch.specs.Whys.{IsWhyOf}
use Rattle.relay_watch.specs.declared.event.Event.{Event}
use Rattle.relay_watch.specs.declared.found.Found.{Found}
use Rattle.relay_watch.specs.declared.line.Line.{Line}
use Rattle.relay_watch.specs.declared.why.Why.{Why}

-- The line of an event, and what is kept after it. A message that a relay sent is explained by the first of the waiting arrivals
-- because of which the plan lets it send that message, and this one waits no more. Then the event itself begins to wait, if something
-- may be sent because of it. If more than 16,384 arrivals would wait, the oldest is given up: it is unanswered if its relay sends
-- something because of it with nothing prohibited, and no unexplained message names it.
pub record IsWatched (plan : Network) (old : Kept) (e : Event) (line : Line) (new : Kept) : Type 0 where
  pub found : Option Found
  pub search : IsFound plan old.waiting e found (reading e.octets)
  pub why : Why
  pub verdict_is : line.verdict ≡ verdict_of plan e found why (reading e.octets)
  pub says_why : IsWhyOf plan old.waiting old.answered e (reading e.octets) line.verdict
  pub given_is : line.given_up ≡ given_up (joined old.waiting (place_of found) (begins plan e (reading e.octets)))
  pub unanswered_is : line.unanswered ≡ keeping.unanswered_if (keeping.with_named old.named (keeping.named_in line.verdict)) line.given_up
  pub waiting_is : new.waiting ≡ kept (joined old.waiting (place_of found) (begins plan e (reading e.octets)))
  pub answered_is : new.answered
      ≡ keeping.remembered (old.answered ++ option_to_list (keeping.answered_at old.waiting e.number (place_of found)))
  pub named_is : new.named ≡ keeping.left_named old.named line.verdict line.given_up
  pub relays_are : new.relays ≡ keeping.left_relays plan e line.verdict line.unanswered old.relays
  pub events_are : new.events ≡ keeping.one_more old.events
  pub unexplained_are : new.unexplained
      ≡ keeping.one_more_if (keeping.is_unexplained line.verdict) old.unexplained

-- a line for each event, from what was kept before the first to what is kept after the last
abbrev pub AreWatched : Network → Kept → List Event → List Line → Kept → Type 0
AreWatched plan old [] [] new = new ≡ old
AreWatched plan old [] (line ∷ lines) new = ⊥
AreWatched plan old (e ∷ events) [] new = ⊥
AreWatched plan old (e ∷ events) (line ∷ lines) new = (next : Kept) × IsWatched plan old e line next × AreWatched plan next events lines new
