-- The lines of messages are read again as these messages.
use Rattle.std.proofs.Common.{◌≡◌, ℕ, zero, suc, ◌+◌, Bool, true, false, cond, List, [], ◌∷◌, ◌++◌, length, map, Option, Some}
use Rattle.std.proofs.Common.{None, Result, Ok, refl, sym, ◌∙◌, ap, subst, inl, inr, arith}
use Rattle.std.specs.Prelude.{◌&&◌, not, nat_eq, nat_lt, nat_le, find, option_and_then}
use Rattle.std.specs.List.{All, list_all, position, prefix_len}
use Rattle.std.specs.Int.{w16, w32, to_be_bytes}
use Rattle.std.specs.Cmp.Lexicographic.{pointwise, same_text}
use Rattle.std.proofs.lemmas.Cmp.{nat_list_eq_equiv}
use Rattle.std.proofs.lemmas.Bool.{eq-eqb, eqb-true, leb-true, and_parts}
use Rattle.std.proofs.lemmas.List.Sums.{AllPass-from_list_all}
use Rattle.hex.specs.Hex.{IsBytes}
use Rattle.capture_file.specs.Packets.{Captured, Packet, Bad, Told}
use Rattle.m3ua_trace.proofs.Messages.{line-again}
use Rattle.m3ua_trace.proofs.Payloads.{carried_in}
use Rattle.packet_layers.specs.Layers.{found_in, m2pa}
use Rattle.packet_layers.specs.Places.{HasChunk, chunk_octets, header_octets, HasTransfer, IsIn}
use Rattle.packet_layers.specs.Values.{Carried, Chunk, BadChunk, Signal, Bare, Unread, Other, DataChunk, Transferred, found_as}
use Rattle.packet_layers.specs.declared.found.Found.{Found}
use Rattle.packet_layers.specs.declared.found.Found.TheVariants as found
use Rattle.packet_layers.proofs.InLinks.{answered, one_answered}
use Rattle.plan_model.specs.Network.{Network, IsPlan, has_name, has_point}
use Rattle.plan_model.specs.declared.node.Node.{Node}
use Rattle.sccp_base.proofs.Among.{Among, find-Some, same_of_pairs, same_bool}
use Rattle.sccp_base.specs.Names.{IsName, is_name_octet, name_of}
use Rattle.trace_text.specs.Forms.{line_of}
use Rattle.capture_trace.specs.Forms.{IsReadAgain, IsReadLine, HasOctets}
use Rattle.capture_trace.specs.Traced.{lines_of}
use Rattle.capture_trace.proofs.Sound.{SoundIn, IsKept, SoundPacket, All_map}
use Rattle.capture_trace.proofs.Forms.{IsSound, IsLineOf, sound_forms}

-- ---- octets among octets

bytes-front : (front back : List ℕ) → IsBytes (front ++ back) → IsBytes front
bytes-front [] back each i = omega arith
bytes-front (x ∷ front) back each zero = each 0
bytes-front (x ∷ front) back each (suc i) = bytes-front front back (λ j. each (suc j)) i

bytes-back : (front back : List ℕ) → IsBytes (front ++ back) → IsBytes back
bytes-back [] back each = each
bytes-back (x ∷ front) back each = bytes-back front back (λ i. each (suc i))

bytes-both : (front back : List ℕ) → IsBytes front → IsBytes back → IsBytes (front ++ back)
bytes-both [] back first second i = second i
bytes-both (x ∷ front) back first second zero = first 0
bytes-both (x ∷ front) back first second (suc i) = bytes-both front back (λ j. first (suc j)) second i

-- a chunk up to its data
abbrev chunk_front : ℕ → DataChunk → List ℕ
chunk_front flags d =
    (0 ∷ flags ∷ []) ++ to_be_bytes w16 (16 + length d.payload) ++ to_be_bytes w32 d.tsn ++ to_be_bytes w16 d.stream
    ++ to_be_bytes w16 d.sequence ++ to_be_bytes w32 d.protocol

chunk-bytes : (b : List ℕ) (d : DataChunk) → IsBytes b → HasChunk b d → IsBytes d.payload
chunk-bytes b d each is =
    bytes-back (chunk_front is.flags d) d.payload
    (bytes-back (is.before ++ header_octets d.flow is.checksum ++ is.between) (chunk_octets is.flags d)
    (bytes-front (is.before ++ header_octets d.flow is.checksum ++ is.between ++ chunk_octets is.flags d) is.after
    (subst IsBytes is.parts each)))

transfer-bytes : (b : List ℕ) (t : Transferred) → IsBytes b → HasTransfer b t → IsBytes t.payload
transfer-bytes b t each is = bytes-back _ t.payload (bytes-front _ is.after (subst IsBytes is.parts each))

in-bytes : (b : List ℕ) (c : Carried) → IsBytes b → IsIn b c → SoundIn IsBytes c
in-bytes b (Chunk k d) each is = chunk-bytes b d each is
in-bytes b (BadChunk k why) each is = tt
in-bytes b (Signal t) each is = transfer-bytes b t each is
in-bytes b (Bare octets) each is = tt
in-bytes b (Unread why) each is = tt
in-bytes b Other each is = tt

-- ---- what packets carry

-- the same as the code gives it, at any place
as_found : Carried → Found
as_found (Chunk k d) = found.Chunk k (record {
  flow = d.flow;
  tsn = d.tsn;
  stream = d.stream;
  sequence = d.sequence;
  protocol = d.protocol;
  unordered = d.unordered;
  begins = d.begins;
  ends = d.ends;
  payload = record { ref_ptr = (0, 0); now = d.payload };
})
as_found (BadChunk k why) = found.BadChunk k why
as_found (Signal t) = found.Transfer (record {
  origin = t.origin;
  destination = t.destination;
  service = t.service;
  payload = record { ref_ptr = (0, 0); now = t.payload };
})
as_found (Bare octets) = found.Sccp (record { ref_ptr = (0, 0); now = octets })
as_found (Unread why) = found.Unread why
as_found Other = found.Other

found-again : (c : Carried) → found_as (as_found c) ≡ c
unfolding as_found
found-again (Chunk k d) = refl
found-again (BadChunk k why) = refl
found-again (Signal t) = refl
found-again (Bare octets) = refl
found-again (Unread why) = refl
found-again Other = refl

all-again : (cs : List Carried) → map found_as (map as_found cs) ≡ cs
all-again [] = refl
all-again (c ∷ cs) = ap (λ (x : Carried). x ∷ map found_as (map as_found cs)) (found-again c)
    ∙ ap (λ (xs : List Carried). c ∷ xs) (all-again cs)

abbrev given : List Found → Result (List Found) ℕ
given found = Ok found

found-bytes : (link original : ℕ) (b : List ℕ) → IsBytes b → All (SoundIn IsBytes) (found_in link original b)
found-bytes link original b each =
    let cs : List Carried = found_in link original b in
    let are : All (IsIn b) (map found_as (map as_found cs)) = answered link original b (given (map as_found cs)) each (all-again cs) in
    All_map (IsIn b) (SoundIn IsBytes) (λ c is. in-bytes b c each is) cs (subst (λ (xs : List Carried). All (IsIn b) xs) (all-again cs) are)

adapted-bytes : (b : List ℕ) → IsBytes b → SoundIn IsBytes (m2pa b)
adapted-bytes b each =
    in-bytes b (m2pa b) each
    (subst (IsIn b) (found-again (m2pa b)) (one_answered b (as_found (m2pa b)) each (found-again (m2pa b))))

bytes-kept : IsKept IsBytes
bytes-kept = record {
  found = found-bytes;
  adapted = adapted-bytes;
  carried = λ b params p each e is. (carried_in b params p each e is).payload.bytes;
  nothing = λ i. omega arith;
  joined = bytes-both;
}

-- ---- the relay of a name

prefix-agree : {X : Type 0} (p q : X → Bool) (xs : List X) → ((x : X) → Among x xs → p x ≡ q x)
    → prefix_len (λ x. not (p x)) xs ≡ prefix_len (λ x. not (q x)) xs
prefix-agree p q [] h = refl
prefix-agree p q (x ∷ xs) h =
    λ i. cond (not (h x (inl refl) i)) (1 + prefix-agree p q xs (λ y m. h y (inr m)) i) 0

position-agree : {X : Type 0} (p q : X → Bool) (xs : List X) → ((x : X) → Among x xs → p x ≡ q x) → position p xs ≡ position q xs
position-agree p q xs h = ap (λ (n : ℕ). cond (nat_lt n (length xs)) (Some n) None) (prefix-agree p q xs h)

-- a text that is read as a name is this name
name-read : (text name : List ℕ) → name_of text ≡ Some name → (text ≡ name) × IsName name
unfolding name_of
name-read text name e = by (nat_le 1 (length text) && nat_le (length text) 16 && list_all is_name_octet text) refl e where
  by : (b : Bool) → (nat_le 1 (length text) && nat_le (length text) 16 && list_all is_name_octet text) ≡ b
      → cond b (Some text) None ≡ Some name → (text ≡ name) × IsName name
  by true is f =
      let same : text ≡ name = cc in
      let p = and_parts (nat_le 1 (length text) && nat_le (length text) 16) (list_all is_name_octet text) is in
      let q = and_parts (nat_le 1 (length text)) (nat_le (length text) 16) p.0 in (
        same,
        subst IsName same (record {
          some = leb-true 1 (length text) q.0;
          most = leb-true (length text) 16 q.1;
          each = AllPass-from_list_all is_name_octet text p.1;
        }),
      )
  by false is f = absurd (cc)

-- what the name of the node of a point says
record IsNamed (nodes : List Node) (pc : ℕ) (name : List ℕ) : Type 0 where
  node : Node
  there : Among node nodes
  point : node.pc ≡ pc
  called : node.name ≡ name
  is_name : IsName name

named-node : (nodes : List Node) (pc : ℕ) (name : List ℕ)
    → option_and_then (λ node. name_of node.name) (find (has_point pc) nodes) ≡ Some name
    → IsNamed nodes pc name
named-node nodes pc name e = by (find (has_point pc) nodes) refl e where
  by : (o : Option Node) → find (has_point pc) nodes ≡ o → option_and_then (λ node. name_of node.name) o ≡ Some name → IsNamed nodes pc name
  by None f g = absurd (cc)
  by (Some node) f g =
      let is = find-Some (has_point pc) node nodes f in
      let n = name-read node.name name g in
      record { node = node; there = is.0; point = eqb-true node.pc pc is.1; called = n.0; is_name = n.1 }

-- no other node has its name, and none has its point
same-node : (plan : Network) (pc : ℕ) (name : List ℕ) → IsPlan plan → (n : IsNamed plan.nodes pc name) → (x : Node) → Among x plan.nodes
    → has_name name x ≡ has_point pc x
same-node plan pc name is n x m =
    same_bool (has_name name x) (has_point pc x)
    (λ e. let same : x ≡ n.node = same_of_pairs (λ a b. a.name ≡ b.name) x n.node plan.nodes (λ a b f. sym f) is.names m n.there
    (same_text x.name name (sym e) ∙ sym n.called) in
    eq-eqb x.pc pc (ap (λ (y : Node). y.pc) same ∙ n.point))
    (λ e. let same : x ≡ n.node = same_of_pairs (λ a b. a.pc ≡ b.pc) x n.node plan.nodes (λ a b f. sym f) is.points m n.there
    (eqb-true x.pc pc e ∙ sym n.point) in
    subst (λ (text : List ℕ). pointwise nat_eq x.name text ≡ true)
    (ap (λ (y : Node). y.name) same ∙ n.called) (nat_list_eq_equiv.refl x.name))

-- ---- a message

read-again : (plan : Network) → IsPlan plan → (line : List ℕ) → IsSound IsBytes plan line → IsReadAgain plan line
read-again plan is line m =
    let n : IsNamed plan.nodes m.message.destination m.message.name =
    named-node plan.nodes m.message.destination m.message.name m.message.relay in
    record {
      message = m.message;
      read = ap line_of m.message.text
          ∙ line-again m.message.name m.message.octets m.message.origin n.is_name (omega (arith, m.message.point)) m.octets m.message.some;
      relay = position-agree (has_name m.message.name) (has_point m.message.destination) plan.nodes
          (same-node plan m.message.destination m.message.name is n);
    }

read-line : (plan : Network) → IsPlan plan → (line : List ℕ) → IsLineOf IsBytes plan line → IsReadLine plan line
read-line plan is line (inl e) = inl e
read-line plan is line (inr m) = inr (read-again plan is line m)

sound-packet : (p : Captured) → HasOctets p → SoundPacket IsBytes p
sound-packet (Packet link original octets) each = each
sound-packet (Bad why) each = tt

pub all_read_again : (plan : Network) (told : Told) → IsPlan plan → All HasOctets told.packets → All (IsReadLine plan) (lines_of plan told)
all_read_again plan told is each =
    All_map (IsLineOf IsBytes plan) (IsReadLine plan) (read-line plan is) (lines_of plan told)
    (sound_forms IsBytes bytes-kept plan told (All_map HasOctets (SoundPacket IsBytes) sound-packet told.packets each))
