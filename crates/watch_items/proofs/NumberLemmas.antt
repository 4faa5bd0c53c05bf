-- No two messages of a text have one number.
use Rattle.std.proofs.Common.{◌≡◌, ◌≢◌, ◌<◌, ◌≤◌, ℕ, ◌+◌, Bool, true, false, cond, eqb, List, [], ◌∷◌, length}
use Rattle.std.proofs.Common.{Option, Some, None, Result, Ok, Err, refl, arith}
use Rattle.std.specs.List.{All}
use Rattle.std.proofs.lemmas.List.Elements.{All-nil, All-cons}
use Rattle.std.proofs.lemmas.List.Kept.{AllPairs-cons}
use Rattle.m3ua_data.specs.Carried.{Payload, carried_of}
use Rattle.m3ua_data.specs.Reading.{reading}
use Rattle.m3ua_data.specs.declared.fault.DataFault.{DataFault}
use Rattle.m3ua_data.specs.declared.tagged.Tagged.{Tagged}
use Rattle.m3ua_trace.specs.Imported.{sccp}
use Rattle.relay_watch.specs.Runs.{NumbersDiffer}
use Rattle.relay_watch.specs.declared.event.Event.{Event}
use Rattle.watch_items.specs.Items.{point, event, for_destination, from_origin, from_payload, from_carried, from_reading, item_of}
use Rattle.watch_items.specs.Items.{items_from}
use Rattle.watch_items.specs.Items.{with_event, events_in}
use Rattle.watch_items.specs.declared.item.Item.{Item}
use Rattle.watch_items.specs.declared.item.Item.TheVariants.{Seen, Refused, OtherPoint, NoOctets, Nothing, Captured, Note}

-- ---- one line

-- the message of an item, if it is one, has this number
abbrev IsNumbered : ℕ → Item → Type 0
IsNumbered number (Seen e) = e.number ≡ number
IsNumbered number (Refused line fault) = Unit {0}
IsNumbered number (OtherPoint line) = Unit {0}
IsNumbered number (NoOctets line) = Unit {0}
IsNumbered number Nothing = Unit {0}
IsNumbered number (Captured packet e) = e.number ≡ number
IsNumbered number (Note line) = Unit {0}

numbered_for : (number origin : ℕ) (octets : List ℕ) (destination : Option ℕ)
    → IsNumbered number (for_destination number origin octets destination)
numbered_for number origin octets None = tt
numbered_for number origin octets (Some destination) = by (eqb (length octets) 0) where
  by : (b : Bool) → IsNumbered number (cond b (NoOctets number) (Seen (event number origin destination octets)))
  by true = tt
  by false = refl

numbered_from : (number : ℕ) (p : Payload) (origin : Option ℕ) → IsNumbered number (from_origin number p origin)
numbered_from number p None = tt
numbered_from number p (Some origin) = numbered_for number origin p.payload (point p.destination)

numbered_payload : (number : ℕ) (p : Payload) → IsNumbered number (from_payload number p)
numbered_payload number p = by (eqb p.service sccp) where
  by : (b : Bool) → IsNumbered number (cond b (from_origin number p (point p.origin)) Nothing)
  by true = numbered_from number p (point p.origin)
  by false = tt

numbered_carried : (number : ℕ) (o : Option Payload) → IsNumbered number (from_carried number o)
numbered_carried number None = tt
numbered_carried number (Some p) = numbered_payload number p

numbered_reading : (number : ℕ) (r : Result (List Tagged) DataFault) → IsNumbered number (from_reading number r)
numbered_reading number (Ok params) = numbered_carried number (carried_of params)
numbered_reading number (Err fault) = tt

numbered_item : (number : ℕ) (octets : List ℕ) → IsNumbered number (item_of number octets)
numbered_item number octets = by (eqb (length octets) 0) where
  by : (b : Bool) → IsNumbered number (cond b Nothing (from_reading number (reading octets)))
  by true = tt
  by false = numbered_reading number (reading octets)

-- ---- all

-- the numbers of messages are not below this one
abbrev pub NotBelow : ℕ → List Event → Type 0
NotBelow n [] = Unit {0}
NotBelow n (e ∷ events) = (n ≤ e.number) × NotBelow n events

weaker : (m n : ℕ) (events : List Event) → m ≤ n → NotBelow n events → NotBelow m events
weaker m n [] le h = tt
weaker m n (e ∷ events) le h = (omega (arith, h.0), weaker m n events le h.1)

other_than : (m n : ℕ) (events : List Event) → m < n → NotBelow n events → All (λ b. m ≢ b.number) events
other_than m n [] lt h = All-nil (λ b. m ≢ b.number)
other_than m n (e ∷ events) lt h = All-cons (λ b. m ≢ b.number) e events (λ same. absurd (omega (arith, same, h.0)))
    (other_than m n events lt h.1)

-- the messages have different numbers, from this one on
pub record AreFrom (number : ℕ) (events : List Event) : Type 0 where
  pub not_below : NotBelow number events
  pub differ : NumbersDiffer events

pub from_lower : (m n : ℕ) (events : List Event) → m ≤ n → AreFrom n events → AreFrom m events
from_lower m n events le h = record { not_below = weaker m n events le h.not_below; differ = h.differ }

-- one more message before them
pub with_message : (number : ℕ) (e : Event) (events : List Event) → e.number ≡ number → AreFrom (number + 1) events
    → AreFrom number (e ∷ events)
with_message number e events is h = record {
  not_below = (omega (arith, is), weaker number (number + 1) events (omega arith) h.not_below);
  differ = AllPairs-cons (λ a b. a.number ≢ b.number) e events (other_than e.number (number + 1) events (omega (arith, is)) h.not_below)
      h.differ;
}

with_item : (number : ℕ) (item : Item) (events : List Event) → IsNumbered number item → AreFrom (number + 1) events
    → AreFrom number (with_event item events)
with_item number (Seen e) events is h = with_message number e events is h
with_item number (Refused line fault) events is h = from_lower number (number + 1) events (omega arith) h
with_item number (OtherPoint line) events is h = from_lower number (number + 1) events (omega arith) h
with_item number (NoOctets line) events is h = from_lower number (number + 1) events (omega arith) h
with_item number Nothing events is h = from_lower number (number + 1) events (omega arith) h
with_item number (Captured packet e) events is h = with_message number e events is h
with_item number (Note line) events is h = from_lower number (number + 1) events (omega arith) h

no_pairs : NumbersDiffer []
no_pairs = λ i j d lt short. absurd (omega arith)

pub from_none : (number : ℕ) → AreFrom number []
from_none number = record { not_below = tt; differ = no_pairs }

events_from : (number : ℕ) (messages : List (List ℕ)) → AreFrom number (events_in (items_from number messages))
unfolding events_in items_from
events_from number [] = from_none number
events_from number (octets ∷ messages) =
    with_item number (item_of number octets) (events_in (items_from (number + 1) messages)) (numbered_item number octets)
    (events_from (number + 1) messages)

pub numbers_differ : (number : ℕ) (messages : List (List ℕ)) → NumbersDiffer (events_in (items_from number messages))
numbers_differ number messages = (events_from number messages).differ
