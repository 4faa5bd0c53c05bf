-- One connection over the relays of a plan, from its request to its release (ITU-T Q.714 section 3).
use Rattle.std.specs.Prelude.{ℕ, zero, suc, ◌+◌, ◌*◌, nat_le, Bool, true, false, if◌then◌else◌, List, [], ◌∷◌, ◌++◌, filter_map, slice_get}
use Rattle.std.specs.Prelude.{Option, Some, None, option_map, option_and_then}
use Rattle.std.specs.List.{position}
use Rattle.sccp_address.specs.declared.address.Address.{Address}
use Rattle.sccp_address.specs.declared.address.Title.TheVariants.{Global}
use Rattle.sccp_layout.specs.Parameter.{Parameter, parameter}
use Rattle.sccp_layout.specs.Table as names
use Rattle.sccp_message.specs.declared.message.Message.{Message}
use Rattle.sccp_message.specs.declared.message.Message.TheVariants as messages
use Rattle.plan_model.specs.Network as plans
use Rattle.plan_model.specs.Network.{has_point}
use Rattle.plan_model.specs.declared.node.Node.{Node}
use Rattle.couple_chain.specs.declared.delivered.Delivered.{Delivered}
use Rattle.couple_chain.specs.declared.delivered.Delivered.TheVariants.{Nothing, Handled, Out}
use Rattle.couple_chain.specs.declared.happening.Happening.{Happening}
use Rattle.couple_chain.specs.declared.happening.Happening.TheVariants.{Offers, Delivers}
use Rattle.couple_chain.specs.declared.offer_fault.OfferFault.{OfferFault}
use Rattle.couple_chain.specs.Line as lines
use Rattle.couple_chain.specs.Line.{line}
use Rattle.couple_chain.specs.World.{delivery}
use Rattle.chain_world.specs.Kept.{network_of}
use Rattle.chain_world.specs.Offering.{as_read, fault_of}
use Rattle.chain_world.specs.Running.{sections_of}
use Rattle.chain_call.specs.declared.call.Call.{Call}
use Rattle.chain_call.specs.declared.finding.Requested.{Requested}
use Rattle.chain_call.specs.declared.note.Note.{Note}
use Rattle.chain_call.specs.declared.outcome.Outcome.{Outcome}
use Rattle.chain_call.specs.declared.outcome.Outcome.TheVariants.{Unsettled, Unanswered, Refused, Opened}
use Rattle.chain_call.specs.declared.outcome.Through.{Through}
use Rattle.chain_call.specs.Course.{Course, world_at}
use Rattle.chain_call.specs.Links.{next_link}
use Rattle.chain_call.specs.Notes.{note_of, release_of, first_request, first_confirm, first_refusal, data_at}

-- ---- offers and deliveries

-- what an offer adds to the history, by the test that it fails; a refused offer adds nothing
abbrev pub offer_by : Option OfferFault → ℕ → ℕ → Message → List Happening
offer_by (Some fault) from to message = []
offer_by None from to message = Offers from to (as_read message) ∷ []

-- a message is offered on the link from one point to another; a refused offer counts too
unfoldable pub offered : ℕ → ℕ → Message → Course → Course
offered from to message c =
    record c {
      history = c.history ++ offer_by (fault_of (network_of c.plan)
          (world_at c) from to message) from to message;
      offers = c.offers + 1;
    }

-- an end that is handed an RLSD answers it with an RLC, back to the relay that handed it; it answers nothing otherwise
abbrev pub answered : ℕ → ℕ → Option (ℕ × ℕ) → Course → Course
answered from to None c = c
answered from to (Some pair) c = offered to from (messages.Rlc pair.1 pair.0) c

-- an end is handed a message, keeps a note of it, and answers it if it is a release
unfoldable pub handed_out : ℕ → ℕ → Note → Course → Course
handed_out from to note c = answered from to (release_of note)
    (record c { handed = c.handed ++ record { from = from; to = to; note = note } ∷ [] })

-- if a delivery leads to an end, this end is handed the message
abbrev pub come_out : ℕ → ℕ → Delivered → Course → Course
come_out from to Nothing c = c
come_out from to Handled c = c
come_out from to (Out message) c = handed_out from to (note_of message) c

-- the link from one point to another delivers its oldest message
unfoldable pub delivered : ℕ → ℕ → Course → Course
delivered from to c =
    come_out from to (delivery (network_of c.plan) (world_at c) from to)
    (record c { history = c.history ++ Delivers from to ∷ []; deliveries = c.deliveries + 1 })

-- ---- until no link holds a message

-- 64 deliveries were made for each message that was offered
abbrev pub is_spent : Course → Bool
is_spent c = nat_le (64 * c.offers) c.deliveries

-- the link that is to deliver next, if one holds a message
unfoldable pub next_of : Course → Option (ℕ × ℕ)
next_of c = next_link (network_of c.plan) (world_at c) c.history

-- It is settled if no link is to deliver. Otherwise that link delivers and later turns follow, unless no delivery is left.
abbrev pub turn : (Course → Option Course) → Option (ℕ × ℕ) → Course → Option Course
turn later None c = Some c
turn later (Some l) c = if is_spent c then None else later (delivered l.0 l.1 c)

-- at most this number of turns; there is no result if they are not enough
abbrev pub settled_in : ℕ → Course → Option Course
settled_in zero c = None
settled_in (suc turns) c = turn (λ after. settled_in turns after) (next_of c) c

-- Deliveries until no link holds a message. There is no result if a link still holds one after 64 deliveries for each message
-- that was offered. The turns are more than a run can make.
unfoldable pub settled : Course → Option Course
settled c = settled_in 18446744073709551615 c

-- ---- the steps

-- the called address, which routes on the title and has no point code
abbrev pub called_of : Call → Address
called_of call = record { national = false; by_ssn = false; pc = None; ssn = call.ssn; title = Global call.selector call.digits }

-- a hop counter of 15
abbrev pub counter : List Parameter
counter = parameter names.hops (15 ∷ []) ∷ []

-- the request: source reference 1, class 2
unfoldable pub requested : Call → Course → Course
requested call c = offered call.from call.entry (messages.Cr 1 2 (called_of call) counter) c

-- the end that was handed the request confirms it: source reference 2, class 2
unfoldable pub confirmed : Option Requested → Course → Course
confirmed None c = c
confirmed (Some request) c = offered request.to request.from (messages.Cc request.slr 2 2 []) c

-- more octets follow, so M is set
abbrev pub has_more : List ℕ → Bool
has_more [] = false
has_more (octet ∷ rest) = true

-- One DT1 for each octet, with M on all but the last. All are offered on the link from one point to another, with this
-- destination reference.
abbrev pub sent_by : ℕ → ℕ → ℕ → List ℕ → Course → Course
sent_by from to reference [] c = c
sent_by from to reference (octet ∷ rest) c = sent_by from to reference rest
    (offered from to (messages.Dt1 reference (has_more rest) (octet ∷ [])) c)

-- the octets go forth, to the relay that the request was sent to and with the reference that it gave
unfoldable pub sent_forth : Call → ℕ → Course → Course
sent_forth call own c = sent_by call.from call.entry own call.octets c

-- the far end sends back what it was handed, to the relay of the request and under the reference that the request had
unfoldable pub sent_back : Requested → ℕ → Course → Course
sent_back request far c = sent_by request.to request.from request.slr (data_at far 2 c.handed) c

-- the release, with cause 0
unfoldable pub released : Call → ℕ → Course → Course
released call own c = offered call.from call.entry (messages.Rlsd own 1 0 []) c

-- ---- the outcome

-- What went over the connection: the data that the far end was handed with its reference 2, and those that the other end was
-- handed with its reference 1. Last, the sections that are left.
unfoldable pub through : Call → ℕ → Course → Through
through call far c = record {
  forth = data_at far 2 c.handed;
  back = data_at call.from 1 c.handed;
  sections = sections_of
      (network_of c.plan) (world_at c);
}

-- Octets go forth and back and the connection is released. After each of these three steps the links deliver until they are
-- empty. There is no result if a link still holds a message and no delivery is left.
unfoldable pub carried : Call → ℕ → ℕ → Requested → Course → Option Through
carried call far own request c =
    option_and_then (λ forth. option_and_then (λ back. option_map (through call far) (settled (released call own back)))
    (settled (sent_back request far forth)))
    (settled (sent_forth call own c))

-- The end that requested the connection knows its relay's reference by the confirmation that it was handed. The far end knows
-- it by the request. If one has none, nothing is sent.
abbrev pub carried_if : Call → ℕ → Option ℕ → Option Requested → Course → Option Through
carried_if call far None request c = Some (through call far c)
carried_if call far (Some own) None c = Some (through call far c)
carried_if call far (Some own) (Some request) c = carried call far own request c

-- the same, by what the two ends were handed
unfoldable pub carried_on : Call → ℕ → Course → Option Through
carried_on call far c = carried_if call far (first_confirm call.from c.handed) (first_request c.handed) c

-- the name of the relay at a place of the plan
abbrev pub name_of : plans.Network → ℕ → Option (List ℕ)
name_of plan place = option_map (λ (node : Node). node.name) (slice_get plan.nodes place)

-- the name of the relay at a point
unfoldable pub name_at : plans.Network → ℕ → Option (List ℕ)
name_at plan point = option_and_then (name_of plan) (position (has_point point) plan.nodes)

-- a connection that is not open was refused, with the cause that the end was handed, or was left unanswered
abbrev pub refused_or : Option ℕ → Outcome
refused_or (Some cause) = Refused cause
refused_or None = Unanswered

-- it is open exactly if it has a line, and only then octets are sent over it
abbrev pub on_line : Call → Course → Option lines.Line → Outcome
on_line call c None = refused_or (first_refusal call.from c.handed)
on_line call c (Some l) = Opened (filter_map (name_at c.plan) l.path) l.end_point (carried_on call l.end_point c)

-- the next step, unless a link still holds a message and no delivery is left
abbrev pub if_settled : (Course → Outcome) → Option Course → Outcome
if_settled next None = Unsettled
if_settled next (Some c) = next c

-- The outcome of a connection once the links are empty after its confirmation. Its line begins at the end that requested it,
-- which gave the reference 1.
unfoldable pub with_line : Call → Course → Outcome
with_line call c = on_line call c (line (network_of c.plan) (world_at c) call.from 1)

-- the outcome of a connection once the links are empty after its request
unfoldable pub answer_to : Call → Course → Outcome
answer_to call c = if_settled (with_line call) (settled (confirmed (first_request c.handed) c))

-- the outcome of a connection, from its request on
unfoldable pub outcome : Call → Course → Outcome
outcome call c = if_settled (answer_to call) (settled (requested call c))
