-- What each chunk of a capture gives, and what is kept of those before it.
use Rattle.std.specs.Prelude.{ℕ, zero, suc, ◌+◌, ◌&&◌, ◌==◌, nat_lt, Bool, not, if◌then◌else◌, List, [], ◌∷◌, ◌++◌, length, take, drop}
use Rattle.std.specs.Prelude.{filter}
use Rattle.std.specs.Prelude.{find, map, slice_get, Option, Some, None, option_map}
use Rattle.std.specs.List.{list_any}
use Rattle.packet_layers.specs.Values.{DataChunk}
use Rattle.user_messages.specs.declared.key.Key.{Key}
use Rattle.user_messages.specs.declared.place.Place.{Place}
use Rattle.user_messages.specs.declared.given.Given.{Given}
use Rattle.user_messages.specs.declared.given.Given.TheVariants.{Whole, Repeated, Waits}
use Rattle.user_messages.specs.Chunks.{key_of, same_key, same_chunk, goes_on}
use Rattle.user_messages.specs.UserMessages.{message_of}

-- a chunk at its place in the capture
pub record Received : Type 0 where
  pub place : Place
  pub chunk : DataChunk

abbrev pub received : Place → DataChunk → Received
received place chunk = record { place = place; chunk = chunk }

abbrev pub chunks_of : List Received → List DataChunk
chunks_of cs = map (λ c. c.chunk) cs

-- one of these chunks has the association and the number of that one
abbrev pub has_key : List Received → Received → Bool
has_key cs c = list_any (λ d. same_chunk c.chunk d.chunk) cs

-- What is kept: the keys of chunks that a later one may repeat, the latest first, 65,536 at most; and the chunks of user
-- messages that are not whole yet, in the order in which they arrived, 256 at most.
pub record Gathered : Type 0 where
  pub seen : List Key
  pub waiting : List Received

abbrev pub nothing : Gathered
nothing = record { seen = []; waiting = [] }

-- ---- chunks that are there already

-- A chunk whose verification tag is 0 belongs to no association (RFC 9260, section 8.5.1), and repeats none.
abbrev pub is_repeat : List Key → Key → Bool
is_repeat seen key = not (key.tag == 0) && list_any (same_key key) seen

-- a key goes to the front
abbrev pub remembered : Key → List Key → List Key
remembered key seen = take 65536 (key ∷ filter (λ k. not (same_key key k)) seen)

abbrev pub noted : Key → List Key → List Key
noted key seen = if key.tag == 0 then seen else remembered key seen

-- ---- messages that become whole

abbrev pub follow : (Received → Option (List Received)) → Option Received → Option (List Received)
follow next None = None
follow next (Some d) = next d

-- the chunks of the message from the one that begins it to this one
unfoldable pub up_to : ℕ → List Received → Received → Option (List Received)
up_to zero waiting c = None
up_to (suc most) waiting c =
    if c.chunk.begins then Some (c ∷ [])
    else option_map (λ run. run ++ c ∷ []) (follow (up_to most waiting) (find (λ d. goes_on d.chunk c.chunk) waiting))

-- the chunks of the message after this one, to the one that ends it
unfoldable pub after : ℕ → List Received → Received → Option (List Received)
after zero waiting c = None
after (suc most) waiting c =
    if c.chunk.ends then Some []
    else follow (λ d. option_map (λ run. d ∷ run) (after most waiting d)) (find (λ d. goes_on c.chunk d.chunk) waiting)

abbrev pub both_parts : Option (List Received) → Option (List Received) → Option (List Received)
both_parts (Some front) (Some back) = Some (front ++ back)
both_parts (Some front) None = None
both_parts None back = None

-- the chunks of the message that this one is a part of, if all have arrived
unfoldable pub run_of : List Received → Received → Option (List Received)
run_of waiting c = both_parts (up_to (length waiting + 1) waiting c) (after (length waiting + 1) waiting c)

-- the chunks that wait, after one more, and what it gives
pub record Outcome : Type 0 where
  pub waiting : List Received
  pub given : Given

abbrev pub giving : List Received → Given → Outcome
giving waiting given = record { waiting = waiting; given = given }

-- one more waits; if 256 wait already, the first of them is given up
abbrev pub waits : List Received → Received → Outcome
waits waiting c =
    if nat_lt (length waiting) 256 then giving (waiting ++ c ∷ []) (Waits None)
    else giving (drop 1 waiting ++ c ∷ []) (Waits (option_map (λ d. d.place) (slice_get waiting 0)))

-- the chunks of a message that is whole wait no longer
abbrev pub joins : List Received → Received → Option (List Received) → Outcome
joins waiting c None = waits waiting c
joins waiting c (Some run) = giving (filter (λ d. not (has_key run d)) waiting) (Whole (message_of (chunks_of run)))

-- a chunk that repeats none
unfoldable pub first_copy : List Received → Received → Outcome
first_copy waiting c =
    if c.chunk.begins && c.chunk.ends then giving waiting (Whole c.chunk.payload) else joins waiting c (run_of waiting c)

-- ---- a chunk

abbrev pub keeping : List Key → Outcome → Gathered × Given
keeping seen o = (record { seen = seen; waiting = o.waiting }, o.given)

-- what a chunk gives, and what is kept after it
unfoldable pub took : Gathered → Received → Gathered × Given
took g c =
    keeping (noted (key_of c.chunk) g.seen)
    (if is_repeat g.seen (key_of c.chunk) then giving g.waiting Repeated else first_copy g.waiting c)
