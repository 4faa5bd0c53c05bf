-- What an end keeps of the messages that it is handed.
use Rattle.std.specs.Prelude.{ℕ, ◌==◌, if◌then◌else◌, List, [], ◌∷◌, Option, Some, None}
use Rattle.std.specs.List.{flat_map}
use Rattle.sccp_message.specs.declared.message.Message.{Message}
use Rattle.sccp_message.specs.declared.message.Message.TheVariants as messages
use Rattle.chain_call.specs.declared.note.Note.{Note}
use Rattle.chain_call.specs.declared.note.Note.TheVariants.{Request, Confirm, Refusal, Data, Release, Other}
use Rattle.chain_call.specs.declared.handed.Handed.{Handed}
use Rattle.chain_call.specs.declared.finding.Requested.{Requested}

-- what the steps of a connection need of each type of message; nothing of any other type
abbrev pub note_of : Message → Note
note_of (messages.Cr slr class called params) = Request slr
note_of (messages.Cc dlr slr class params) = Confirm slr
note_of (messages.Cref dlr cause params) = Refusal cause
note_of (messages.Dt1 dlr more payload) = Data dlr payload
note_of (messages.Rlsd dlr slr cause params) = Release dlr slr
note_of _ = Other

-- the destination and the source reference of a release
abbrev pub release_of : Note → Option (ℕ × ℕ)
release_of (Release dlr slr) = Some (dlr, slr)
release_of note = None

-- the first of two values if it is there, otherwise the later one
abbrev pub or_later : {A : Type 0} → Option A → Option A → Option A
or_later (Some x) later = Some x
or_later None later = later

-- the first value that is found in what ends were handed, in order
abbrev pub first_in : {A : Type 0} → (Handed → Option A) → List Handed → Option A
first_in found [] = None
first_in found (h ∷ handed) = or_later (found h) (first_in found handed)

-- a request that goes between these points: the points of the relay and of the end, and its source reference
abbrev pub request_of : ℕ → ℕ → Note → Option Requested
request_of from to (Request slr) = Some (record { from = from; to = to; slr = slr })
request_of from to note = None

-- the request that an end was handed, if this is one
abbrev pub request_in : Handed → Option Requested
request_in h = request_of h.from h.to h.note

-- the first request that any end was handed
abbrev pub first_request : List Handed → Option Requested
first_request = first_in request_in

-- the source reference of a confirmation
abbrev pub confirm_of : Note → Option ℕ
confirm_of (Confirm slr) = Some slr
confirm_of note = None

-- the source reference of a confirmation, if the end at this point was handed it
abbrev pub confirm_at : ℕ → Handed → Option ℕ
confirm_at point h = if h.to == point then confirm_of h.note else None

-- the source reference of the first confirmation that the end at this point was handed
abbrev pub first_confirm : ℕ → List Handed → Option ℕ
first_confirm point = first_in (confirm_at point)

-- the cause of a refusal
abbrev pub refusal_of : Note → Option ℕ
refusal_of (Refusal cause) = Some cause
refusal_of note = None

-- the cause of a refusal, if the end at this point was handed it
abbrev pub refusal_at : ℕ → Handed → Option ℕ
refusal_at point h = if h.to == point then refusal_of h.note else None

-- the cause of the first refusal that the end at this point was handed
abbrev pub first_refusal : ℕ → List Handed → Option ℕ
first_refusal point = first_in (refusal_at point)

-- the data of a message with this destination reference
abbrev pub data_of : ℕ → Note → List ℕ
data_of reference (Data dlr payload) = if dlr == reference then payload else []
data_of reference note = []

-- the data of such a message, if the end at this point was handed it
abbrev pub data_in : ℕ → ℕ → Handed → List ℕ
data_in point reference h = if h.to == point then data_of reference h.note else []

-- all data that the end at this point was handed with this destination reference, in order
abbrev pub data_at : ℕ → ℕ → List Handed → List ℕ
data_at point reference handed = flat_map (data_in point reference) handed
