-- Each line of a capture is a message for a relay of the plan, or a trace skips it. What holds of the octets of packets holds of
-- those of its messages.
use Rattle.std.proofs.Common.{◌≡◌, ℕ, ◌<◌, ◌≤◌, Bool, true, false, cond, ltb, not, ◌||◌, List, [], ◌∷◌, ◌++◌, length, Option, Some}
use Rattle.std.proofs.Common.{None, Result, Ok, Err, refl, inl, inr, ◌⊎◌, arith, IfSome}
use Rattle.std.specs.Prelude.{◌==◌, codes, decimal}
use Rattle.std.specs.List.{All, AllByRecursion}
use Rattle.std.proofs.Math.Dec.{eqb-suc-zero}
use Rattle.std.proofs.lemmas.Bool.{ltb-false, or_parts}
use Rattle.std.proofs.lemmas.List.Elements.{All-nil, All-cons, All-append, recursion_from_All}
use Rattle.hex.specs.Hex.{encode_upper}
use Rattle.capture_file.specs.Packets.{Captured, Packet, Bad, Told}
use Rattle.capture_file.specs.declared.file_fault.FileFault.{FileFault}
use Rattle.capture_file.specs.declared.file_fault.FileFault.TheVariants.{Cut, Damaged}
use Rattle.m3ua_data.specs.Carried.{Payload, carried_of}
use Rattle.m3ua_data.specs.Reading.{reading}
use Rattle.m3ua_data.specs.declared.fault.DataFault.{DataFault}
use Rattle.m3ua_data.specs.declared.tagged.Tagged.{Tagged}
use Rattle.m3ua_trace.specs.Imported.{OtherService, OtherPoint, name_at, for_node, from_payload, from_carried, from_reading}
use Rattle.m3ua_trace.specs.Imported.{imported, message_line}
use Rattle.packet_layers.specs.Layers.{found_in, m2pa}
use Rattle.packet_layers.specs.Values.{Carried, Chunk, BadChunk, Signal, Bare, Unread, Other, DataChunk}
use Rattle.plan_model.specs.Network.{Network}
use Rattle.trace_text.specs.Forms.{line_of}
use Rattle.trace_text.specs.declared.line.Line.TheVariants.{Skip}
use Rattle.user_messages.specs.declared.given.Given.{Given}
use Rattle.user_messages.specs.declared.given.Given.TheVariants.{Whole, Repeated, Waits}
use Rattle.user_messages.specs.Gathering.{Gathered, Received, received, took}
use Rattle.capture_trace.specs.declared.counts.Counts.{Counts}
use Rattle.capture_trace.specs.declared.kind.Kind.TheVariants as kinds
use Rattle.capture_trace.specs.declared.subject.Subject.{Subject}
use Rattle.capture_trace.specs.Forms.{IsMessage, IsLine}
use Rattle.capture_trace.specs.Items.{Item, silent, left, fault, message_item, imported_item, payload_of, bare_item, carried_item}
use Rattle.capture_trace.specs.Items.{is_for_m3ua}
use Rattle.capture_trace.specs.Items.{is_read, is_other_m3ua, m3ua_item, user_item, given_item, chunk_step, found_step, Step, place_of}
use Rattle.capture_trace.specs.Items.{most_octets, given_step, stays}
use Rattle.capture_trace.specs.Traced.{Standing, Reported, all_found, after_step, of_packet, or_other, with_packet, with_line}
use Rattle.capture_trace.specs.Traced.{taken, beginning, last_lines, fault_lines, alone_lines, alone_line, counts_at_end, lines_after}
use Rattle.capture_trace.specs.Traced.{lines_of}
use Rattle.capture_trace.specs.Words.{skipped, head, octet_line, end_line, named_count, on_chunk, on_packet}
use Rattle.capture_trace.proofs.Sound.{SoundIn, IsKept, SoundPacket, Waiting, SoundGiven, took-sound, All_each, All_map}

-- ---- lines that a trace skips

skipped_line : (s : Subject) (words : List ℕ) → line_of (skipped s words) ≡ Some Skip
unfolding line_of skipped head
skipped_line s words = refl

octet_skipped : (place : ℕ) (words : List ℕ) → line_of (octet_line place words) ≡ Some Skip
unfolding line_of octet_line
octet_skipped place words = refl

end_skipped : (c : Counts) → line_of (end_line c) ≡ Some Skip
unfolding line_of end_line named_count
end_skipped c = refl

-- ---- items

-- a line that a trace skips, or a message of such octets
pub record IsSound (Sound : List ℕ → Type 0) (plan : Network) (line : List ℕ) : Type 0 where
  pub message : IsMessage plan line
  pub octets : Sound message.octets

abbrev pub IsLineOf : (List ℕ → Type 0) → Network → List ℕ → Type 0
IsLineOf Sound plan line = (line_of line ≡ Some Skip) ⊎ IsSound Sound plan line

-- the line of an item, if it has one, has a form
abbrev HasForm : (List ℕ → Type 0) → Network → Item → Type 0
HasForm Sound plan item = IfSome item.line (IsLineOf Sound plan)

message_form : (Sound : List ℕ → Type 0) (plan : Network) (s : Subject) (destination origin : ℕ) (name octets : List ℕ)
    → name_at plan destination ≡ Some name → origin ≤ 16383 → 0 < length octets → Sound octets
    → HasForm Sound plan (message_item s name origin octets)
unfolding message_item
message_form Sound plan s destination origin name octets relay point some sound = by (ltb most_octets (length octets)) refl where
  by : (b : Bool) → ltb most_octets (length octets) ≡ b → HasForm Sound plan (cond b (left s (codes "long"))
      (record { kind = kinds.Message; line = Some (message_line name origin octets) }))
  by true e = inl (skipped_line s (codes "long"))
  by false e = inr (record {
    message = record {
      name = name;
      destination = destination;
      origin = origin;
      octets = octets;
      relay = relay;
      point = point;
      some = some;
      few = ltb-false most_octets (length octets) e;
      text = refl;
    };
    octets = sound;
  })

node_form : (Sound : List ℕ → Type 0) (plan : Network) (s : Subject) (destination origin : ℕ) (found : Option (List ℕ)) (octets : List ℕ)
    → name_at plan destination ≡ found → origin ≤ 16383 → Sound octets
    → HasForm Sound plan (imported_item s (for_node found origin octets))
unfolding imported_item
node_form Sound plan s destination origin None octets e point sound = inl (skipped_line s (codes "unknown node"))
node_form Sound plan s destination origin (Some name) [] e point sound = inl (skipped_line s (codes "empty"))
node_form Sound plan s destination origin (Some name) (octet ∷ octets) e point sound =
    rw (eqb-suc-zero (length octets))
    (message_form Sound plan s destination origin name (octet ∷ octets) e point (omega arith) sound)

payload_form : (Sound : List ℕ → Type 0) (plan : Network) (s : Subject) (p : Payload) → Sound p.payload
    → HasForm Sound plan (imported_item s (from_payload plan p))
unfolding imported_item
payload_form Sound plan s p sound = by (not (p.service == 3)) (ltb 16383 p.origin || ltb 16383 p.destination) refl where
  by : (other far : Bool) → (ltb 16383 p.origin || ltb 16383 p.destination) ≡ far → HasForm Sound plan (imported_item s
      (cond other (OtherService p.service) (cond far OtherPoint (for_node (name_at plan p.destination) p.origin p.payload))))
  by true far e = inl (skipped_line s (codes "service " ++ decimal p.service))
  by false true e = inl (skipped_line s (codes "point"))
  by false false e =
      node_form Sound plan s p.destination p.origin (name_at plan p.destination) p.payload refl
      (ltb-false 16383 p.origin (or_parts (ltb 16383 p.origin) (ltb 16383 p.destination) e).0) sound

params_form : (Sound : List ℕ → Type 0) (plan : Network) (s : Subject) (o : Option Payload)
    → ((p : Payload) → o ≡ Some p → Sound p.payload) → HasForm Sound plan (imported_item s (from_carried plan o))
unfolding imported_item
params_form Sound plan s None sound = inl (skipped_line s (codes "refused " ++ decimal 5))
params_form Sound plan s (Some p) sound = payload_form Sound plan s p (sound p refl)

read_form : (Sound : List ℕ → Type 0) (plan : Network) (s : Subject) (r : Result (List Tagged) DataFault)
    → ((params : List Tagged) (p : Payload) → r ≡ Ok params → carried_of params ≡ Some p → Sound p.payload)
    → HasForm Sound plan (imported_item s (from_reading plan r))
unfolding imported_item
read_form Sound plan s (Ok params) sound = params_form Sound plan s (carried_of params) (λ p e. sound params p refl e)
read_form Sound plan s (Err why) sound = inl (skipped_line s _)

m3ua_form : (Sound : List ℕ → Type 0) → IsKept Sound → (plan : Network) (s : Subject) (b : List ℕ) → Sound b
    → HasForm Sound plan (m3ua_item plan s b)
unfolding m3ua_item
m3ua_form Sound kept plan s b sound = by (is_other_m3ua b) where
  by : (other : Bool) → HasForm Sound plan (cond other (silent kinds.Other) (imported_item s (imported plan b)))
  by true = tt
  by false = read_form Sound plan s (reading b) (λ params p e is. kept.carried b params p sound e is)

bare_form : (Sound : List ℕ → Type 0) (plan : Network) (s : Subject) (b : List ℕ) → HasForm Sound plan (bare_item s b)
unfolding bare_item
bare_form Sound plan s b = by (length b == 0) (ltb most_octets (length b)) where
  by : (none long : Bool) → HasForm Sound plan (cond none (left s (codes "empty")) (cond long (left s (codes "long"))
      (left s (codes "sccp " ++ encode_upper b))))
  by true long = inl (skipped_line s (codes "empty"))
  by false true = inl (skipped_line s (codes "long"))
  by false false = inl (skipped_line s (codes "sccp " ++ encode_upper b))

carried_form : (Sound : List ℕ → Type 0) (plan : Network) (s : Subject) (found : Carried) → SoundIn Sound found
    → HasForm Sound plan (carried_item plan s found)
unfolding carried_item
carried_form Sound plan s (Chunk k c) sound = tt
carried_form Sound plan s (BadChunk k why) sound = inl (skipped_line _ _)
carried_form Sound plan s (Signal t) sound = payload_form Sound plan s (payload_of t) sound
carried_form Sound plan s (Bare octets) sound = bare_form Sound plan s octets
carried_form Sound plan s (Unread why) sound = inl (skipped_line s _)
carried_form Sound plan s Other sound = tt

user_form : (Sound : List ℕ → Type 0) → IsKept Sound → (plan : Network) (s : Subject) (c : DataChunk) (b : List ℕ) → Sound b
    → HasForm Sound plan (user_item plan s c b)
unfolding user_item
user_form Sound kept plan s c b sound = by (is_for_m3ua c) where
  by : (m3ua : Bool) → HasForm Sound plan (cond m3ua (m3ua_item plan s b) (carried_item plan s (m2pa b)))
  by true = m3ua_form Sound kept plan s b sound
  by false = carried_form Sound plan s (m2pa b) (kept.adapted b sound)

given_form : (Sound : List ℕ → Type 0) → IsKept Sound → (plan : Network) (s : Subject) (c : DataChunk) (given : Given)
    → SoundGiven Sound given → HasForm Sound plan (given_item plan s c given)
unfolding given_item
given_form Sound kept plan s c (Whole octets) sound = user_form Sound kept plan s c octets sound
given_form Sound kept plan s c Repeated sound = tt
given_form Sound kept plan s c (Waits None) sound = tt
given_form Sound kept plan s c (Waits (Some place)) sound = inl (skipped_line _ _)

-- a step gives a line of a form, and what waits stays sound
record IsStep (Sound : List ℕ → Type 0) (plan : Network) (step : Step) : Type 0 where
  form : HasForm Sound plan step.item
  waiting : Waiting Sound step.gathered

chunk_form : (Sound : List ℕ → Type 0) → IsKept Sound → (plan : Network) (packet : ℕ) (g : Gathered) (k : ℕ) (c : DataChunk)
    → Waiting Sound g → Sound c.payload → IsStep Sound plan (chunk_step plan packet g k c)
unfolding chunk_step
chunk_form Sound kept plan packet g k c each sound = by (is_read c) where
  by : (read : Bool) → IsStep Sound plan (cond read (given_step plan (on_chunk packet k) c (took g (received (place_of packet k) c)))
      (stays g (silent kinds.Other)))
  by true = record {
    form = given_form Sound kept plan (on_chunk packet k) c (took g (received (place_of packet k) c)).1
        (took-sound Sound kept g (received (place_of packet k) c) each sound).1;
    waiting = (took-sound Sound kept g (received (place_of packet k) c) each sound).0;
  }
  by false = record { form = tt; waiting = each }

step_form : (Sound : List ℕ → Type 0) → IsKept Sound → (plan : Network) (packet : ℕ) (g : Gathered) (found : Carried)
    → Waiting Sound g → SoundIn Sound found → IsStep Sound plan (found_step plan packet g found)
unfolding found_step
step_form Sound kept plan packet g (Chunk k c) each sound = chunk_form Sound kept plan packet g k c each sound
step_form Sound kept plan packet g (BadChunk k why) each sound =
    record { form = carried_form Sound plan (on_packet packet) (BadChunk k why) sound; waiting = each }
step_form Sound kept plan packet g (Signal t) each sound =
    record { form = carried_form Sound plan (on_packet packet) (Signal t) sound; waiting = each }
step_form Sound kept plan packet g (Bare octets) each sound =
    record { form = carried_form Sound plan (on_packet packet) (Bare octets) sound; waiting = each }
step_form Sound kept plan packet g (Unread why) each sound =
    record { form = carried_form Sound plan (on_packet packet) (Unread why) sound; waiting = each }
step_form Sound kept plan packet g Other each sound =
    record { form = carried_form Sound plan (on_packet packet) Other sound; waiting = each }

-- ---- lines

with_line_forms : (P : List ℕ → Type 0) (line : Option (List ℕ)) (lines : List (List ℕ)) → IfSome line P → All P lines
    → All P (with_line line lines)
with_line_forms P None lines h hs = hs
with_line_forms P (Some line) lines h hs = All-cons P line lines h hs

-- lines of forms, and what waits is sound
record IsReported (Sound : List ℕ → Type 0) (plan : Network) (r : Reported) : Type 0 where
  forms : All (IsLineOf Sound plan) r.lines
  waiting : Waiting Sound r.now.gathered

found_forms : (Sound : List ℕ → Type 0) → IsKept Sound → (plan : Network) (found : List Carried) (s : Standing)
    → Waiting Sound s.gathered → AllByRecursion (SoundIn Sound) found → IsReported Sound plan (all_found plan found s)
unfolding all_found
found_forms Sound kept plan [] s each sound = record { forms = All-nil (IsLineOf Sound plan); waiting = each }
found_forms Sound kept plan (x ∷ xs) s each sound =
    let step : Step = found_step plan s.counts.packets s.gathered x in
    let first : IsStep Sound plan step = step_form Sound kept plan s.counts.packets s.gathered x each sound.0 in
    let later = found_forms Sound kept plan xs (after_step s.counts step) first.waiting sound.1 in
    record {
      forms = with_line_forms (IsLineOf Sound plan) step.item.line (all_found plan xs (after_step s.counts step)).lines first.form
          later.forms;
      waiting = later.waiting;
    }

or_other_sound : (Sound : List ℕ → Type 0) (found : List Carried) → AllByRecursion (SoundIn Sound) found
    → AllByRecursion (SoundIn Sound) (or_other found)
or_other_sound Sound [] sound = (tt, tt)
or_other_sound Sound (x ∷ xs) sound = sound

packet_forms : (Sound : List ℕ → Type 0) → IsKept Sound → (plan : Network) (s : Standing) (packet : Captured)
    → Waiting Sound s.gathered → SoundPacket Sound packet → IsReported Sound plan (of_packet plan s packet)
unfolding of_packet
packet_forms Sound kept plan s (Packet link original octets) each sound =
    found_forms Sound kept plan (or_other (found_in link original octets)) s each
    (or_other_sound Sound (found_in link original octets)
    (recursion_from_All (SoundIn Sound) (found_in link original octets) (kept.found link original octets sound)))
packet_forms Sound kept plan s (Bad why) each sound =
    record { forms = All-cons (IsLineOf Sound plan) _ [] (inl (skipped_line _ _)) (All-nil (IsLineOf Sound plan)); waiting = each }

fault_forms : (Sound : List ℕ → Type 0) (plan : Network) (fault : Option FileFault) → All (IsLineOf Sound plan) (fault_lines fault)
fault_forms Sound plan None = All-nil (IsLineOf Sound plan)
fault_forms Sound plan (Some (Cut place)) =
    All-cons (IsLineOf Sound plan) _ [] (inl (octet_skipped _ _)) (All-nil (IsLineOf Sound plan))
fault_forms Sound plan (Some (Damaged place why)) =
    All-cons (IsLineOf Sound plan) _ [] (inl (octet_skipped _ _)) (All-nil (IsLineOf Sound plan))

alone_forms : (Sound : List ℕ → Type 0) (plan : Network) (waiting : List Received)
    → All (IsLineOf Sound plan) (alone_lines waiting)
alone_forms Sound plan [] = All-nil (IsLineOf Sound plan)
alone_forms Sound plan (r ∷ rs) =
    All-cons (IsLineOf Sound plan) (alone_line r.place) (alone_lines rs) (inl (skipped_line _ _)) (alone_forms Sound plan rs)

last_forms : (Sound : List ℕ → Type 0) (plan : Network) (c : Counts) (fault : Option FileFault) (waiting : List Received)
    → All (IsLineOf Sound plan) (last_lines c fault waiting)
unfolding last_lines
last_forms Sound plan c fault waiting =
    let last : List ℕ = end_line (counts_at_end c fault (length waiting)) in
    All-append (IsLineOf Sound plan) (fault_lines fault) (alone_lines waiting ++ last ∷ []) (fault_forms Sound plan fault)
    (All-append (IsLineOf Sound plan) (alone_lines waiting) (last ∷ []) (alone_forms Sound plan waiting)
    (All-cons (IsLineOf Sound plan) last [] (inl (end_skipped _)) (All-nil (IsLineOf Sound plan))))

after_forms : (Sound : List ℕ → Type 0) → IsKept Sound → (plan : Network) (packets : List Captured) (fault : Option FileFault)
    (s : Standing) → Waiting Sound s.gathered → AllByRecursion (SoundPacket Sound) packets
    → All (IsLineOf Sound plan) (lines_after plan packets fault s)
unfolding lines_after
after_forms Sound kept plan [] fault s each sound = last_forms Sound plan s.counts fault s.gathered.waiting
after_forms Sound kept plan (packet ∷ packets) fault s each sound =
    let first = packet_forms Sound kept plan (with_packet s) packet each sound.0 in
    All-append (IsLineOf Sound plan) (taken plan s packet).lines (lines_after plan packets fault (taken plan s packet).now)
    first.forms (after_forms Sound kept plan packets fault (taken plan s packet).now first.waiting sound.1)

pub sound_forms : (Sound : List ℕ → Type 0) → IsKept Sound → (plan : Network) (told : Told) → All (SoundPacket Sound) told.packets
    → All (IsLineOf Sound plan) (lines_of plan told)
sound_forms Sound kept plan told each =
    after_forms Sound kept plan told.packets told.fault beginning tt
    (recursion_from_All (SoundPacket Sound) told.packets each)

-- ---- nothing is asked of octets

abbrev Any : List ℕ → Type 0
Any octets = Unit {0}

any_in : (c : Carried) → SoundIn Any c
any_in (Chunk k c) = tt
any_in (BadChunk k why) = tt
any_in (Signal t) = tt
any_in (Bare octets) = tt
any_in (Unread why) = tt
any_in Other = tt

any_packet : (p : Captured) → SoundPacket Any p
any_packet (Packet link original octets) = tt
any_packet (Bad why) = tt

any_kept : IsKept Any
any_kept = record {
  found = λ link original b sound. All_each (SoundIn Any) any_in (found_in link original b);
  adapted = λ b sound. any_in (m2pa b);
  carried = λ b params p sound e is. tt;
  nothing = tt;
  joined = λ a b x y. tt;
}

forget : (plan : Network) (line : List ℕ) → IsLineOf Any plan line → IsLine plan line
forget plan line (inl e) = inl e
forget plan line (inr m) = inr m.message

pub forms : (plan : Network) (told : Told) → All (IsLine plan) (lines_of plan told)
forms plan told =
    All_map (IsLineOf Any plan) (IsLine plan) (forget plan) (lines_of plan told)
    (sound_forms Any any_kept plan told (All_each (SoundPacket Any) any_packet told.packets))
