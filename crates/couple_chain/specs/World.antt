-- Relays and ends, the links between their points, and what happens there (ITU-T Q.714 section 3: coupling of sections).
use Rattle.std.specs.Prelude.{ℕ, ◌≡◌, ◌≢◌, ◌<◌, ◌≤◌, ◌⊎◌, ◌==◌, Bool, false, not, ◌&&◌, ◌||◌, if◌then◌else◌, List, [], ◌∷◌, ◌++◌}
use Rattle.std.specs.Prelude.{filter_map, Option, Some, None, is_some, is_none}
use Rattle.std.specs.List.{list_any}
use Rattle.std.specs.Option.{option_map_or}
use Rattle.sccp_message.specs.declared.message.Message.{Message}
use Rattle.sccp_message.specs.declared.message.Message.TheVariants as messages
use Rattle.sccp_message.specs.Fields.{first_unread}
use Rattle.sccp_message.specs.Written.{content}
use Rattle.sccp_message.specs.Unitdata.{called_of}
use Rattle.sccp_layout.specs.Table.{row}
use Rattle.sccp_scrc.specs.Unitdata.{write_fault}
use Rattle.sccp_couple.specs.declared.way.Way.{Way}
use Rattle.sccp_couple.specs.Events.{Event, Answer}
pub use Rattle.couple_chain.specs.declared.happening.Happening.{Happening}
pub use Rattle.couple_chain.specs.declared.happening.Happening.TheVariants.{Offers, Delivers}
pub use Rattle.couple_chain.specs.declared.offer_fault.OfferFault.{OfferFault}
pub use Rattle.couple_chain.specs.declared.offer_fault.OfferFault.TheVariants.{NotAnEnd, NotANode, Connectionless, UsedReference}
pub use Rattle.couple_chain.specs.declared.offer_fault.OfferFault.TheVariants.{NotWritable}
pub use Rattle.couple_chain.specs.declared.delivered.Delivered.{Delivered}
pub use Rattle.couple_chain.specs.declared.delivered.Delivered.TheVariants.{Nothing, Handled, Out}
use Rattle.sccp_couple.specs.Coupling.{coupled}
use Rattle.sccp_couple.specs.Runs as coupling
use Rattle.sccp_couple.specs.Runs.{Moment}

-- The relays' points, in the plan's order, and what the plan says of a CR that a relay receives from a point. A point that no
-- relay has is an end.
pub record Network : Type 0 where
  pub nodes : List ℕ
  pub way : ℕ → ℕ → Message → Way

-- the point is that of a relay
abbrev pub is_node : Network → ℕ → Bool
is_node network point = list_any (λ n. n == point) network.nodes

-- a link is an ordered pair of points, and keeps its messages in order
abbrev pub Links : Type 0
Links = ℕ → ℕ → List Message

-- the coupling of each relay, what each link holds, and what each link has delivered, oldest first
pub record World : Type 0 where
  pub moments : ℕ → Moment
  pub waiting : Links
  pub arrived : Links

-- the world in which nothing has happened
abbrev pub start : World
start = record { moments = λ point. coupling.start; waiting = λ from to. []; arrived = λ from to. [] }

-- all that was put on a link so far
abbrev pub put_on : World → Links
put_on w from to = w.arrived from to ++ w.waiting from to

-- one link has another list, and the others stay
abbrev pub with_link : ℕ → ℕ → List Message → Links → Links
with_link from to messages links = λ a b. if (a == from) && (b == to) then messages else links a b

-- one relay has another coupling, and the others stay
abbrev pub with_moment : ℕ → Moment → (ℕ → Moment) → ℕ → Moment
with_moment node moment moments = λ n. if n == node then moment else moments n

-- the messages that go to a point
abbrev pub goes_to : ℕ → Answer → Option Message
goes_to point sent = if sent.to == point then Some sent.message else None

-- those of these answers that go to a point, in order
abbrev pub messages_to : ℕ → List Answer → List Message
messages_to point sent = filter_map (goes_to point) sent

-- what a relay answers goes on its links
abbrev pub with_sent : ℕ → List Answer → Links → Links
with_sent node sent links = λ a b. if a == node then links a b ++ messages_to b sent else links a b

-- a message from a point, as an event of a relay
abbrev pub event_at : Network → ℕ → ℕ → Message → Event
event_at network node origin message = record { origin = origin; message = message; way = network.way node origin message }

-- a relay takes a message
abbrev pub handled : World → ℕ → Event → World
handled w node event = record {
  moments = with_moment node (coupling.happens (w.moments node) event) w.moments;
  waiting = with_sent node (coupled (w.moments node).sections event).sent w.waiting;
  arrived = w.arrived;
}

-- the oldest message has left its link
abbrev pub left : World → ℕ → ℕ → Message → List Message → World
left w from to message rest = record {
  moments = w.moments;
  waiting = with_link from to rest w.waiting;
  arrived = with_link from to (w.arrived from to ++ message ∷ []) w.arrived;
}

-- a delivery, if the link holds these messages: without any, nothing changes; at an end, the message leaves the world
abbrev pub delivered_of : Network → World → ℕ → ℕ → List Message → World
delivered_of network w from to [] = w
delivered_of network w from to (message ∷ rest) =
    if is_node network to then handled (left w from to message rest) to (event_at network to from message) else left w from to message rest

-- the world after one delivery of a link
abbrev pub delivered : Network → World → ℕ → ℕ → World
delivered network w from to = delivered_of network w from to (w.waiting from to)

-- whether a message is a CR with this source local reference
abbrev pub requests : ℕ → Message → Bool
requests own (messages.Cr slr class called params) = slr == own
requests own _ = false

-- whether a message is a CC with this source local reference
abbrev pub confirms : ℕ → Message → Bool
confirms own (messages.Cc dlr slr class params) = slr == own
confirms own _ = false

-- whether a message is a CR or a CC with this source local reference, which then names a section of the sender
abbrev pub names : ℕ → Message → Bool
names own message = requests own message || confirms own message

-- the source local reference of a CR or CC
abbrev pub name_of : Message → Option ℕ
name_of (messages.Cr slr class called params) = Some slr
name_of (messages.Cc dlr slr class params) = Some slr
name_of _ = None

-- a CR or CC that went from this point to a relay had this source local reference
abbrev pub is_used : Network → World → ℕ → ℕ → Bool
is_used network w from own = list_any (λ to. list_any (names own) (put_on w from to)) network.nodes

-- a source local reference, if there is one, was used before
abbrev pub uses_again : Network → World → ℕ → Option ℕ → Bool
uses_again network w from None = false
uses_again network w from (Some own) = is_used network w from own

-- the name of a parameter that is known for the message's type, and of which the first one does not read, if there is one
abbrev pub unread : Message → Option ℕ
unread message = first_unread (option_map_or (λ r. r.known) (row (content message).code) []) (content message).params

-- the message can be written, and what is written reads
abbrev pub is_writable : Message → Bool
is_writable message = is_none (write_fault message) && is_none (unread message)

-- the first test that fails, in the order of testing
abbrev pub fault_by : Bool → Bool → Bool → Bool → Bool → Option OfferFault
fault_by from_relay to_end connectionless used unwritable =
    if from_relay then Some NotAnEnd
    else if to_end then Some NotANode
    else if connectionless then Some Connectionless
    else if used then Some UsedReference
    else if unwritable then Some NotWritable
    else None

-- the fault of an offer, if it is to be refused
abbrev pub offer_fault : Network → World → ℕ → ℕ → Message → Option OfferFault
offer_fault network w from to message =
    fault_by (is_node network from) (not (is_node network to)) (is_some (called_of message)) (uses_again network w from (name_of message))
    (not (is_writable message))

-- a message is put on a link
abbrev pub put : World → ℕ → ℕ → Message → World
put w from to message = record {
  moments = w.moments;
  waiting = with_link from to (w.waiting from to ++ message ∷ []) w.waiting;
  arrived = w.arrived;
}

-- an offer that is refused changes nothing
abbrev pub offered_if : Option OfferFault → World → ℕ → ℕ → Message → World
offered_if (Some fault) w from to message = w
offered_if None w from to message = put w from to message

-- the world after an offer
abbrev pub offered : Network → World → ℕ → ℕ → Message → World
offered network w from to message = offered_if (offer_fault network w from to message) w from to message

-- the answer of a delivery
abbrev pub delivery_of : Network → ℕ → List Message → Delivered
delivery_of network to [] = Nothing
delivery_of network to (message ∷ rest) = if is_node network to then Handled else Out message

-- the answer of the delivery of one link
abbrev pub delivery : Network → World → ℕ → ℕ → Delivered
delivery network w from to = delivery_of network to (w.waiting from to)

-- of the links that hold a message, the least by its first point and then its second
pub record IsNextLink (w : World) (from to : ℕ) : Type 0 where
  pub holds : w.waiting from to ≢ []
  pub least : (a b : ℕ) → w.waiting a b ≢ [] → (from < a) ⊎ ((from ≡ a) × (to ≤ b))

-- a world after one more happening
abbrev pub happens : Network → World → Happening → World
happens network w (Offers from to message) = offered network w from to message
happens network w (Delivers from to) = delivered network w from to

-- a world after these happenings
abbrev pub run : Network → World → List Happening → World
run network w [] = w
run network w (h ∷ history) = run network (happens network w h) history

-- the world after a history, which begins with the start
abbrev pub after : Network → List Happening → World
after network history = run network start history
