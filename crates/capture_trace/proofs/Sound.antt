-- What holds of the octets of packets holds of the data of user messages.
use Rattle.std.proofs.Common.{◌≡◌, ℕ, zero, suc, Bool, List, [], ◌∷◌, ◌++◌, length, Option, Some, None, Ok, IfSome, ◌+◌}
use Rattle.std.specs.Prelude.{◌&&◌, nat_lt, filter, find, drop, option_map}
use Rattle.std.specs.List.{All, AllByRecursion}
use Rattle.std.proofs.lemmas.Bool.{cond_both}
use Rattle.std.proofs.lemmas.List.Elements.{All-nil, All-cons}
use Rattle.capture_file.specs.Packets.{Captured, Packet, Bad}
use Rattle.m3ua_data.specs.Carried.{Payload, carried_of}
use Rattle.m3ua_data.specs.Reading.{reading}
use Rattle.m3ua_data.specs.declared.tagged.Tagged.{Tagged}
use Rattle.packet_layers.specs.Layers.{found_in, m2pa}
use Rattle.packet_layers.specs.Values.{Carried, Chunk, BadChunk, Signal, Bare, Unread, Other}
use Rattle.user_messages.specs.declared.given.Given.{Given}
use Rattle.user_messages.specs.declared.given.Given.TheVariants.{Whole, Repeated, Waits}
use Rattle.user_messages.specs.Chunks.{goes_on, key_of}
use Rattle.user_messages.specs.UserMessages.{message_of}
use Rattle.user_messages.specs.Gathering.{Received, Gathered, Outcome, chunks_of, follow, up_to, after, both_parts, run_of, giving}
use Rattle.user_messages.specs.Gathering.{joins, first_copy, is_repeat, keeping, noted, took}

-- what holds of everything holds of all of a list
pub All_each : {X : Type 0} (P : X → Type 0) → ((x : X) → P x) → (xs : List X) → All P xs
All_each P h [] = All-nil P
All_each P h (x ∷ xs) = All-cons P x xs (h x) (All_each P h xs)

pub All_map : {X : Type 0} (P Q : X → Type 0) → ((x : X) → P x → Q x) → (xs : List X) → All P xs → All Q xs
All_map P Q h xs all = λ i d lt. h _ (all i d lt)

-- ---- a property of octets

-- of those that a packet carries for SCCP
abbrev pub SoundIn : (List ℕ → Type 0) → Carried → Type 0
SoundIn Sound (Chunk k c) = Sound c.payload
SoundIn Sound (BadChunk k why) = Unit {0}
SoundIn Sound (Signal t) = Sound t.payload
SoundIn Sound (Bare octets) = Unit {0}
SoundIn Sound (Unread why) = Unit {0}
SoundIn Sound Other = Unit {0}

-- parts of octets have it as well, and octets that are put together
pub record IsKept (Sound : List ℕ → Type 0) : Type 0 where
  pub found : (link original : ℕ) (b : List ℕ) → Sound b → All (SoundIn Sound) (found_in link original b)
  pub adapted : (b : List ℕ) → Sound b → SoundIn Sound (m2pa b)
  pub carried : (b : List ℕ) (params : List Tagged) (p : Payload) → Sound b → reading b ≡ Ok params → carried_of params ≡ Some p
      → Sound p.payload
  pub nothing : Sound []
  pub joined : (a b : List ℕ) → Sound a → Sound b → Sound (a ++ b)

-- the data of a packet
abbrev pub SoundPacket : (List ℕ → Type 0) → Captured → Type 0
SoundPacket Sound (Packet link original octets) = Sound octets
SoundPacket Sound (Bad why) = Unit {0}

-- chunks
abbrev SoundChunk : (List ℕ → Type 0) → Received → Type 0
SoundChunk Sound c = Sound c.chunk.payload

abbrev Each : (List ℕ → Type 0) → List Received → Type 0
Each Sound run = AllByRecursion (SoundChunk Sound) run

-- the chunks that wait
abbrev pub Waiting : (List ℕ → Type 0) → Gathered → Type 0
Waiting Sound g = Each Sound g.waiting

-- a message that is given
abbrev pub SoundGiven : (List ℕ → Type 0) → Given → Type 0
SoundGiven Sound (Whole octets) = Sound octets
SoundGiven Sound Repeated = Unit {0}
SoundGiven Sound (Waits place) = Unit {0}

-- ---- lists of chunks

each-append : (Sound : List ℕ → Type 0) (front back : List Received) → Each Sound front → Each Sound back → Each Sound (front ++ back)
each-append Sound [] back h k = k
each-append Sound (c ∷ front) back h k = (h.0, each-append Sound front back h.1 k)

each-drop : (Sound : List ℕ → Type 0) (run : List Received) → Each Sound run → Each Sound (drop 1 run)
each-drop Sound [] h = tt
each-drop Sound (c ∷ run) h = h.1

each-filter : (Sound : List ℕ → Type 0) (p : Received → Bool) (run : List Received) → Each Sound run → Each Sound (filter p run)
each-filter Sound p [] h = tt
each-filter Sound p (c ∷ run) h =
    cond_both (p c) (c ∷ filter p run) (filter p run) (Each Sound) (λ _. (h.0, each-filter Sound p run h.1))
    (λ _. each-filter Sound p run h.1)

each-find : (Sound : List ℕ → Type 0) (p : Received → Bool) (run : List Received) → Each Sound run
    → IfSome (find p run) (SoundChunk Sound)
each-find Sound p [] h = tt
each-find Sound p (c ∷ run) h =
    cond_both (p c) (Some c) (find p run) (λ o. IfSome o (SoundChunk Sound)) (λ _. h.0) (λ _. each-find Sound p run h.1)

all-joined : (Sound : List ℕ → Type 0) → IsKept Sound → (run : List Received) → Each Sound run → Sound (message_of (chunks_of run))
all-joined Sound kept [] each = kept.nothing
all-joined Sound kept (c ∷ run) each =
    kept.joined c.chunk.payload (message_of (chunks_of run)) each.0 (all-joined Sound kept run each.1)

-- ---- runs

abbrev IfRun : (List ℕ → Type 0) → Option (List Received) → Type 0
IfRun Sound o = IfSome o (Each Sound)

follow-sound : (Sound : List ℕ → Type 0) (next : Received → Option (List Received)) (o : Option Received)
    → IfSome o (SoundChunk Sound) → ((d : Received) → SoundChunk Sound d → IfRun Sound (next d)) → IfRun Sound (follow next o)
follow-sound Sound next None h each = tt
follow-sound Sound next (Some d) h each = each d h

last-sound : (Sound : List ℕ → Type 0) (c : Received) (o : Option (List Received)) → SoundChunk Sound c → IfRun Sound o
    → IfRun Sound (option_map (λ run. run ++ c ∷ []) o)
last-sound Sound c None sound h = tt
last-sound Sound c (Some run) sound h = each-append Sound run (c ∷ []) h (sound, tt)

first-sound : (Sound : List ℕ → Type 0) (c : Received) (o : Option (List Received)) → SoundChunk Sound c → IfRun Sound o
    → IfRun Sound (option_map (λ run. c ∷ run) o)
first-sound Sound c None sound h = tt
first-sound Sound c (Some run) sound h = (sound, h)

up_to-sound : (Sound : List ℕ → Type 0) (most : ℕ) (waiting : List Received) (c : Received) → Each Sound waiting → SoundChunk Sound c
    → IfRun Sound (up_to most waiting c)
unfolding up_to
up_to-sound Sound zero waiting c each sound = tt
up_to-sound Sound (suc most) waiting c each sound =
    cond_both c.chunk.begins _ _ (IfRun Sound) (λ _. (sound, tt))
    (λ _. last-sound Sound c (follow (up_to most waiting) (find (λ d. goes_on d.chunk c.chunk) waiting)) sound
    (follow-sound Sound (up_to most waiting) (find (λ d. goes_on d.chunk c.chunk) waiting)
    (each-find Sound (λ d. goes_on d.chunk c.chunk) waiting each) (λ d h. up_to-sound Sound most waiting d each h)))

after-sound : (Sound : List ℕ → Type 0) (most : ℕ) (waiting : List Received) (c : Received) → Each Sound waiting
    → IfRun Sound (after most waiting c)
unfolding after
after-sound Sound zero waiting c each = tt
after-sound Sound (suc most) waiting c each =
    cond_both c.chunk.ends _ _ (IfRun Sound) (λ _. tt)
    (λ _. follow-sound Sound (λ d. option_map (λ run. d ∷ run) (after most waiting d)) (find (λ d. goes_on c.chunk d.chunk) waiting)
    (each-find Sound (λ d. goes_on c.chunk d.chunk) waiting each)
    (λ d h. first-sound Sound d (after most waiting d) h (after-sound Sound most waiting d each)))

parts-sound : (Sound : List ℕ → Type 0) (o p : Option (List Received)) → IfRun Sound o → IfRun Sound p → IfRun Sound (both_parts o p)
parts-sound Sound None p h k = tt
parts-sound Sound (Some front) None h k = tt
parts-sound Sound (Some front) (Some back) h k = each-append Sound front back h k

run-sound : (Sound : List ℕ → Type 0) (waiting : List Received) (c : Received) → Each Sound waiting → SoundChunk Sound c
    → IfRun Sound (run_of waiting c)
unfolding run_of
run-sound Sound waiting c each sound =
    parts-sound Sound (up_to (length waiting + 1) waiting c) (after (length waiting + 1) waiting c)
    (up_to-sound Sound (length waiting + 1) waiting c each sound) (after-sound Sound (length waiting + 1) waiting c each)

-- ---- a chunk

abbrev SoundOutcome : (List ℕ → Type 0) → Outcome → Type 0
SoundOutcome Sound o = Each Sound o.waiting × SoundGiven Sound o.given

joins-sound : (Sound : List ℕ → Type 0) → IsKept Sound → (waiting : List Received) (c : Received) (o : Option (List Received))
    → Each Sound waiting → SoundChunk Sound c → IfRun Sound o → SoundOutcome Sound (joins waiting c o)
joins-sound Sound kept waiting c None each sound h =
    cond_both (nat_lt (length waiting) 256) _ _ (SoundOutcome Sound) (λ _. (each-append Sound waiting (c ∷ []) each (sound, tt), tt))
    (λ _. (each-append Sound (drop 1 waiting) (c ∷ []) (each-drop Sound waiting each) (sound, tt), tt))
joins-sound Sound kept waiting c (Some run) each sound h = (each-filter Sound _ waiting each, all-joined Sound kept run h)

first_copy-sound : (Sound : List ℕ → Type 0) → IsKept Sound → (waiting : List Received) (c : Received) → Each Sound waiting
    → SoundChunk Sound c → SoundOutcome Sound (first_copy waiting c)
unfolding first_copy
first_copy-sound Sound kept waiting c each sound =
    cond_both (c.chunk.begins && c.chunk.ends) _ _ (SoundOutcome Sound) (λ _. (each, sound))
    (λ _. joins-sound Sound kept waiting c (run_of waiting c) each sound (run-sound Sound waiting c each sound))

pub took-sound : (Sound : List ℕ → Type 0) → IsKept Sound → (g : Gathered) (c : Received) → Waiting Sound g → Sound c.chunk.payload
    → Waiting Sound (took g c).0 × SoundGiven Sound (took g c).1
unfolding took
took-sound Sound kept g c each sound =
    cond_both (is_repeat g.seen (key_of c.chunk)) (giving g.waiting Repeated) (first_copy g.waiting c)
    (λ o. Waiting Sound (keeping (noted (key_of c.chunk) g.seen) o).0 × SoundGiven Sound (keeping (noted (key_of c.chunk) g.seen) o).1)
    (λ _. (each, tt)) (λ _. first_copy-sound Sound kept g.waiting c each sound)
