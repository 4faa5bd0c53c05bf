-- Each line of a capture is short, and one line.
use Rattle.std.proofs.Common.{◌≡◌, ℕ, ◌+◌, ◌^◌, ◌<◌, ◌≤◌, Bool, true, false, cond, ltb, not, ◌&&◌, ◌||◌, List, [], ◌∷◌}
use Rattle.std.proofs.Common.{◌++◌, length, Option, Some, None, Result, Ok, Err, refl, ◌∙◌, ap, arith, subst, IfSome, length-append}
use Rattle.std.specs.Prelude.{◌==◌, codes, decimal, find, option_and_then, slice_index, slice_range, nat_lt, nat_le}
use Rattle.std.specs.List.{All, list_all}
use Rattle.std.proofs.Math.Dec.{eqb-suc-zero}
use Rattle.std.proofs.lemmas.Bool.{and_parts, leb-true, ltb-false, or_parts}
use Rattle.std.proofs.lemmas.Fmt.{length-decimal-le}
use Rattle.std.proofs.lemmas.List.Elements.{All-nil, All-cons, All-append}
use Rattle.std.proofs.lemmas.List.Sums.{AllPass-from_list_all}
use Rattle.hex.specs.Hex.{encode_upper, upper_digits}
use Rattle.hex.proofs.HexLemmas.{length-encode_with}
use Rattle.capture_file.specs.Packets.{Captured, Packet, Bad, Told}
use Rattle.capture_file.specs.declared.file_fault.FileFault.{FileFault}
use Rattle.capture_file.specs.declared.file_fault.FileFault.TheVariants.{Cut, Damaged}
use Rattle.capture_file.specs.declared.file_fault.Damage.{Damage}
use Rattle.capture_file.specs.declared.file_fault.Damage.TheVariants as damages
use Rattle.capture_file.specs.declared.held.BadPacket.{BadPacket}
use Rattle.capture_file.specs.declared.held.BadPacket.TheVariants as bads
use Rattle.m3ua_data.specs.Carried.{Payload, carried_of}
use Rattle.m3ua_data.specs.Reading.{reading}
use Rattle.m3ua_data.specs.declared.fault.DataFault.{DataFault}
use Rattle.m3ua_data.specs.declared.tagged.Tagged.{Tagged}
use Rattle.m3ua_trace.specs.Imported.{OtherService, OtherPoint, name_at, for_node, from_payload, from_carried, from_reading}
use Rattle.m3ua_trace.specs.Imported.{imported, message_line, fault_number}
use Rattle.m3ua_trace.proofs.Messages.{length-line}
use Rattle.m3ua_trace.proofs.Plain.{IsPlain, plain-append, plain-name, plain-point}
use Rattle.packet_layers.specs.Layers.{found_in, is_m2pa, m2pa, mtp3, transfer_of}
use Rattle.packet_layers.specs.Numbers.{number_4}
use Rattle.packet_layers.specs.Values.{Carried, Chunk, BadChunk, Signal, Bare, Unread, Other, DataChunk}
use Rattle.packet_layers.specs.declared.chunk_fault.ChunkFault.{ChunkFault}
use Rattle.packet_layers.specs.declared.chunk_fault.ChunkFault.TheVariants as chunks
use Rattle.packet_layers.specs.declared.fault.Fault.{Fault}
use Rattle.packet_layers.specs.declared.fault.Fault.TheVariants as faults
use Rattle.packet_layers.specs.declared.layer.Layer.{Layer}
use Rattle.packet_layers.specs.declared.layer.Layer.TheVariants as layers
use Rattle.plan_model.specs.Network.{Network, has_point}
use Rattle.plan_model.specs.declared.node.Node.{Node}
use Rattle.sccp_base.specs.Names.{IsName, is_name_octet, name_of}
use Rattle.sccp_report.specs.Values.{point_code_text}
use Rattle.user_messages.specs.declared.given.Given.{Given}
use Rattle.user_messages.specs.declared.given.Given.TheVariants.{Whole, Repeated, Waits}
use Rattle.user_messages.specs.declared.place.Place.{Place}
use Rattle.user_messages.specs.Gathering.{Gathered, Received, received, took}
use Rattle.capture_trace.specs.declared.counts.Counts.{Counts}
use Rattle.capture_trace.specs.declared.kind.Kind.{Kind}
use Rattle.capture_trace.specs.declared.kind.Kind.TheVariants as kinds
use Rattle.capture_trace.specs.declared.subject.Subject.{Subject}
use Rattle.capture_trace.specs.Forms.{FitsTrace}
use Rattle.capture_trace.specs.Items.{Item, Step, silent, left, fault, counted, message_item, imported_item, payload_of, bare_item}
use Rattle.capture_trace.specs.Items.{carried_item, is_for_m3ua, is_read, is_other_m3ua, m3ua_item, user_item, given_item, chunk_step}
use Rattle.capture_trace.specs.Items.{found_step, place_of, most_octets, given_step, stays}
use Rattle.capture_trace.specs.Traced.{Standing, all_found, after_step, of_packet, or_other, with_packet, with_line, taken, beginning}
use Rattle.capture_trace.specs.Traced.{last_lines, fault_lines, alone_lines, alone_line, counts_at_end, lines_after, lines_of}
use Rattle.capture_trace.specs.Words.{skipped, head, chunk_head, octet_line, end_line, named_count, on_chunk, on_packet, fault_words}
use Rattle.capture_trace.specs.Words.{layer_word, chunk_fault_word, bad_packet_word, damage_words}
use Rattle.capture_trace.proofs.Numerals.{plain_number, short_number, plain_hex}

-- ---- heads

chunk_plain : (k : Option ℕ) → IsPlain (chunk_head k)
unfolding chunk_head
chunk_plain None = refl
chunk_plain (Some k) = plain-append (codes "chunk ") (decimal k ++ codes " ") refl
    (plain-append (decimal k) (codes " ") (plain_number k) refl)

chunk_short : (k : Option ℕ) → length (chunk_head k) ≤ 71
unfolding chunk_head
chunk_short None = omega arith
chunk_short (Some k) = omega (arith, length-append (decimal k) (codes " "), short_number k)

no_chunk : length (chunk_head None) ≡ 0
unfolding chunk_head
no_chunk = refl

head_plain : (s : Subject) → IsPlain (head s)
unfolding head
head_plain s =
    plain-append (codes "# packet ") (decimal s.packet ++ (codes " " ++ chunk_head s.chunk)) refl
    (plain-append (decimal s.packet) (codes " " ++ chunk_head s.chunk) (plain_number s.packet)
    (plain-append (codes " ") (chunk_head s.chunk) refl (chunk_plain s.chunk)))

head_short : (s : Subject) → length (head s) ≤ 74 + length (chunk_head s.chunk)
unfolding head
head_short s = omega (arith, length-append (decimal s.packet) (codes " " ++ chunk_head s.chunk), short_number s.packet)

-- the number of a packet has twenty digits at most
small_head : (s : Subject) → s.packet < 2 ^ 64 → length (head s) ≤ 30 + length (chunk_head s.chunk)
unfolding head
small_head s lt =
    omega (
      arith,
      length-append (decimal s.packet) (codes " " ++ chunk_head s.chunk),
      length-decimal-le 20 s.packet (omega arith)
          (omega arith) lt,
    )

-- ---- lines that a trace skips

-- words of a line
record AreWords (most : ℕ) (words : List ℕ) : Type 0 where
  short : length words ≤ most
  plain : IsPlain words

skipped_words : (s : Subject) (words : List ℕ) → AreWords 8000 words → FitsTrace (skipped s words)
unfolding skipped
skipped_words s words h = record {
  short = omega (arith, length-append (head s) words, head_short s, chunk_short s.chunk, h.short);
  plain = plain-append (head s) words (head_plain s) h.plain;
}

-- of a packet, and not of a chunk
record IsPacket (s : Subject) : Type 0 where
  small : s.packet < 2 ^ 64
  no_chunk : s.chunk ≡ None

packet_words : (s : Subject) (words : List ℕ) → IsPacket s → AreWords 8149 words → FitsTrace (skipped s words)
unfolding skipped
packet_words s words e h = record {
  short = omega
      (arith, length-append (head s) words, small_head s e.small, ap (λ k. length (chunk_head k)) e.no_chunk ∙ no_chunk, h.short);
  plain = plain-append (head s) words (head_plain s) h.plain;
}

layer_words : (layer : Layer) → AreWords 20 (layer_word layer)
layer_words layers.Ethernet = record { short = omega arith; plain = refl }
layer_words layers.Cooked = record { short = omega arith; plain = refl }
layer_words layers.Loopback = record { short = omega arith; plain = refl }
layer_words layers.Ip = record { short = omega arith; plain = refl }
layer_words layers.Ipv6 = record { short = omega arith; plain = refl }
layer_words layers.Sctp = record { short = omega arith; plain = refl }
layer_words layers.M2pa = record { short = omega arith; plain = refl }
layer_words layers.Mtp2 = record { short = omega arith; plain = refl }
layer_words layers.Mtp3 = record { short = omega arith; plain = refl }
layer_words layers.Sccp = record { short = omega arith; plain = refl }

words_of_fault : (why : Fault) → AreWords 8000 (fault_words why)
unfolding fault_words
words_of_fault (faults.Link link) = record {
  short = omega (arith, short_number link);
  plain = plain-append (codes "link ") (decimal link) refl (plain_number link);
}
words_of_fault (faults.Short layer) = record {
  short = omega (arith, (layer_words layer).short);
  plain = plain-append (codes "short ") (layer_word layer) refl (layer_words layer).plain;
}
words_of_fault (faults.Bad layer) = record {
  short = omega (arith, (layer_words layer).short);
  plain = plain-append (codes "bad ") (layer_word layer) refl (layer_words layer).plain;
}
words_of_fault faults.Fragment = record { short = omega arith; plain = refl }

words_of_chunk : (why : ChunkFault) → AreWords 8000 (chunk_fault_word why)
words_of_chunk chunks.Short = record { short = omega arith; plain = refl }
words_of_chunk chunks.Bad = record { short = omega arith; plain = refl }
words_of_chunk chunks.Interleaved = record { short = omega arith; plain = refl }

words_of_bad : (why : BadPacket) → AreWords 8000 (bad_packet_word why)
words_of_bad bads.NoInterface = record { short = omega arith; plain = refl }
words_of_bad bads.BadLength = record { short = omega arith; plain = refl }
words_of_bad bads.TooLong = record { short = omega arith; plain = refl }

words_of_damage : (why : Damage) → AreWords 20 (damage_words why)
words_of_damage damages.NoCapture = record { short = omega arith; plain = refl }
words_of_damage damages.Version = record { short = omega arith; plain = refl }
words_of_damage damages.OtherOrder = record { short = omega arith; plain = refl }
words_of_damage damages.Length = record { short = omega arith; plain = refl }
words_of_damage damages.End = record { short = omega arith; plain = refl }
words_of_damage damages.Interfaces = record { short = omega arith; plain = refl }

octet_words : (place : ℕ) (words : List ℕ) → AreWords 20 words → FitsTrace (octet_line place words)
unfolding octet_line
octet_words place words h = record {
  short = omega (arith, length-append (decimal place) (codes " " ++ words), short_number place, h.short);
  plain = plain-append (codes "# octet ") (decimal place ++ (codes " " ++ words)) refl
      (plain-append (decimal place) (codes " " ++ words) (plain_number place) (plain-append (codes " ") words refl h.plain));
}

count_words : (name : List ℕ) (count : ℕ) → AreWords 20 name → AreWords 84 (named_count name count)
unfolding named_count
count_words name count h = record {
  short = omega (arith, length-append name (decimal count), short_number count, h.short);
  plain = plain-append name (decimal count) h.plain (plain_number count);
}

and_words : (most more : ℕ) (xs ys : List ℕ) → AreWords most xs → AreWords more ys → AreWords (most + more) (xs ++ ys)
and_words most more xs ys p q = record {
  short = omega (arith, length-append xs ys, p.short, q.short);
  plain = plain-append xs ys p.plain q.plain;
}

end_words : (c : Counts) → AreWords 504 (end_line c)
unfolding end_line
end_words c =
    and_words 84 420 _ _ (count_words (codes "# end packets ") c.packets (record { short = omega arith; plain = refl }))
    (and_words 84 336 _ _ (count_words (codes " messages ") c.messages (record { short = omega arith; plain = refl }))
    (and_words 84 252 _ _ (count_words (codes " left ") c.left (record { short = omega arith; plain = refl }))
    (and_words 84 168 _ _ (count_words (codes " repeated ") c.repeated (record { short = omega arith; plain = refl }))
    (and_words 84 84 _ _ (count_words (codes " others ") c.others (record { short = omega arith; plain = refl }))
    (count_words (codes " faults ") c.faults (record { short = omega arith; plain = refl }))))))

end_fits : (c : Counts) → FitsTrace (end_line c)
end_fits c = record { short = omega (arith, (end_words c).short); plain = (end_words c).plain }

alone_fits : (place : Place) → FitsTrace (alone_line place)
alone_fits place = skipped_words (on_chunk place.packet place.chunk) (codes "alone") (record { short = omega arith; plain = refl })

-- ---- messages

message_plain : (name octets : List ℕ) (origin : ℕ) → IsName name → origin < 16384 → IsPlain (message_line name origin octets)
unfolding message_line
message_plain name octets origin is_name point =
    let back : List ℕ = point_code_text origin ++ 32 ∷ encode_upper octets in
    plain-append (codes "msg ") (name ++ 32 ∷ back) refl
    (plain-append name (32 ∷ back) (plain-name name is_name)
    (plain-append (32 ∷ []) back refl
    (plain-append (point_code_text origin) (32 ∷ encode_upper octets) (plain-point origin point)
    (plain-append (32 ∷ []) (encode_upper octets) refl (plain_hex octets)))))

some_is : {x y : List ℕ} → Some x ≡ Some y → x ≡ y
some_is e = cc

none_is : {y : List ℕ} → None ≡ Some y → ⊥
none_is e = cc

-- a text that is read as a name is one
name_is : (text name : List ℕ) → name_of text ≡ Some name → IsName name
unfolding name_of
name_is text name e = by (nat_le 1 (length text) && nat_le (length text) 16 && list_all is_name_octet text) refl e where
  by : (b : Bool) → (nat_le 1 (length text) && nat_le (length text) 16 && list_all is_name_octet text) ≡ b
      → cond b (Some text) None ≡ Some name → IsName name
  by true is f =
      let p = and_parts (nat_le 1 (length text) && nat_le (length text) 16) (list_all is_name_octet text) is in
      let q = and_parts (nat_le 1 (length text)) (nat_le (length text) 16) p.0 in
      subst IsName (some_is f) (record {
        some = leb-true 1 (length text) q.0;
        most = leb-true (length text) 16 q.1;
        each = AllPass-from_list_all is_name_octet text p.1;
      })
  by false is f = absurd (none_is f)

-- a node's name is one
node_name : (o : Option Node) → IfSome (option_and_then (λ node. name_of node.name) o) IsName
node_name None = tt
node_name (Some node) = by (name_of node.name) refl where
  by : (n : Option (List ℕ)) → name_of node.name ≡ n → IfSome n IsName
  by None e = tt
  by (Some name) e = name_is node.name name e

-- ---- items

-- the line of an item, if it has one, fits
abbrev Fits : Item → Type 0
Fits item = IfSome item.line FitsTrace

message_fits : (s : Subject) (name : List ℕ) (origin : ℕ) (octets : List ℕ) → IsName name → origin ≤ 16383
    → Fits (message_item s name origin octets)
unfolding message_item
message_fits s name origin octets is_name point = by (ltb most_octets (length octets)) refl where
  by : (b : Bool) → ltb most_octets (length octets) ≡ b → Fits (cond b (left s (codes "long"))
      (record { kind = kinds.Message; line = Some (message_line name origin octets) }))
  by true e = skipped_words s (codes "long") (record { short = omega arith; plain = refl })
  by false e = record {
    short = omega (arith, length-line name octets origin is_name (omega arith), ltb-false most_octets (length octets) e);
    plain = message_plain name octets origin is_name (omega arith);
  }

node_fits : (s : Subject) (origin : ℕ) (found : Option (List ℕ)) (octets : List ℕ) → IfSome found IsName
    → origin ≤ 16383 → Fits (imported_item s (for_node found origin octets))
unfolding imported_item
node_fits s origin None octets h point = skipped_words s (codes "unknown node") (record { short = omega arith; plain = refl })
node_fits s origin (Some name) [] h point = skipped_words s (codes "empty") (record { short = omega arith; plain = refl })
node_fits s origin (Some name) (octet ∷ octets) h point =
    rw (eqb-suc-zero (length octets)) (message_fits s name origin (octet ∷ octets) h point)

service_words : (service : ℕ) → AreWords 8000 (codes "service " ++ decimal service)
service_words service = record {
  short = omega (arith, short_number service);
  plain = plain-append (codes "service ") (decimal service) refl (plain_number service);
}

refused_words : (number : ℕ) → AreWords 8000 (codes "refused " ++ decimal number)
refused_words number = record {
  short = omega (arith, short_number number);
  plain = plain-append (codes "refused ") (decimal number) refl (plain_number number);
}

payload_fits : (plan : Network) (s : Subject) (p : Payload) → Fits (imported_item s (from_payload plan p))
unfolding imported_item
payload_fits plan s p = by (not (p.service == 3)) (ltb 16383 p.origin || ltb 16383 p.destination) refl where
  by : (other far : Bool) → (ltb 16383 p.origin || ltb 16383 p.destination) ≡ far → Fits (imported_item s
      (cond other (OtherService p.service) (cond far OtherPoint (for_node (name_at plan p.destination) p.origin p.payload))))
  by true far e = skipped_words s (codes "service " ++ decimal p.service) (service_words p.service)
  by false true e = skipped_words s (codes "point") (record { short = omega arith; plain = refl })
  by false false e =
      node_fits s p.origin (name_at plan p.destination) p.payload (node_name (find (has_point p.destination) plan.nodes))
      (ltb-false 16383 p.origin (or_parts (ltb 16383 p.origin) (ltb 16383 p.destination) e).0)

params_fit : (plan : Network) (s : Subject) (p : Option Payload) → Fits (imported_item s (from_carried plan p))
unfolding imported_item
params_fit plan s None = skipped_words s (codes "refused " ++ decimal 5) (refused_words 5)
params_fit plan s (Some p) = payload_fits plan s p

read_fits : (plan : Network) (s : Subject) (r : Result (List Tagged) DataFault)
    → Fits (imported_item s (from_reading plan r))
unfolding imported_item
read_fits plan s (Ok params) = params_fit plan s (carried_of params)
read_fits plan s (Err why) = skipped_words s (codes "refused " ++ decimal (fault_number why)) (refused_words (fault_number why))

m3ua_fits : (plan : Network) (s : Subject) (b : List ℕ) → Fits (m3ua_item plan s b)
unfolding m3ua_item
m3ua_fits plan s b = by (is_other_m3ua b) where
  by : (other : Bool) → Fits (cond other (silent kinds.Other) (imported_item s (imported plan b)))
  by true = tt
  by false = read_fits plan s (reading b)

bare_fits : (s : Subject) (b : List ℕ) → IsPacket s → Fits (bare_item s b)
unfolding bare_item
bare_fits s b e = by (length b == 0) (ltb most_octets (length b)) refl where
  by : (none long : Bool) → ltb most_octets (length b) ≡ long → Fits (cond none (left s (codes "empty")) (cond long (left s (codes "long"))
      (left s (codes "sccp " ++ encode_upper b))))
  by true long f = skipped_words s (codes "empty") (record { short = omega arith; plain = refl })
  by false true f = skipped_words s (codes "long") (record { short = omega arith; plain = refl })
  by false false f = packet_words s (codes "sccp " ++ encode_upper b) e (record {
    short = omega (arith, length-encode_with upper_digits b, ltb-false most_octets (length b) f);
    plain = plain-append (codes "sccp ") (encode_upper b) refl (plain_hex b);
  })

-- a message of SCCP without point codes is not in a chunk
abbrev IsApart : Subject → Carried → Type 0
IsApart s (Bare octets) = IsPacket s
IsApart s other = Unit {0}

carried_fits : (plan : Network) (s : Subject) (found : Carried) → IsApart s found → Fits (carried_item plan s found)
unfolding carried_item
carried_fits plan s (Chunk k c) h = tt
carried_fits plan s (BadChunk k why) h = skipped_words (on_chunk s.packet k) (chunk_fault_word why) (words_of_chunk why)
carried_fits plan s (Signal t) h = payload_fits plan s (payload_of t)
carried_fits plan s (Bare octets) h = bare_fits s octets h
carried_fits plan s (Unread why) h = skipped_words s (fault_words why) (words_of_fault why)
carried_fits plan s Other h = tt

either_apart : (s : Subject) (b : Bool) (x y : Carried) → IsApart s x → IsApart s y → IsApart s (cond b x y)
either_apart s true x y p q = p
either_apart s false x y p q = q

mtp3_apart : (s : Subject) (b : List ℕ) → IsApart s (mtp3 b)
unfolding mtp3
mtp3_apart s b = either_apart s (nat_lt (length b) 5) (Unread (faults.Short layers.Mtp3)) (Signal (transfer_of b)) tt tt

m2pa_apart : (s : Subject) (b : List ℕ) → IsApart s (m2pa b)
unfolding m2pa
m2pa_apart s b =
    either_apart s (nat_lt (length b) 16) (Unread (faults.Short layers.M2pa)) _ tt
    (either_apart s (not (is_m2pa b)) (Unread (faults.Bad layers.M2pa)) _ tt
    (either_apart s (not (slice_index b 3 == 1)) Other _ tt
    (either_apart s (nat_lt (number_4 b 4) 17) Other (mtp3 (slice_range b 17 (number_4 b 4))) tt
    (mtp3_apart s (slice_range b 17 (number_4 b 4))))))

user_fits : (plan : Network) (s : Subject) (c : DataChunk) (b : List ℕ) → Fits (user_item plan s c b)
unfolding user_item
user_fits plan s c b = by (is_for_m3ua c) where
  by : (m3ua : Bool) → Fits (cond m3ua (m3ua_item plan s b) (carried_item plan s (m2pa b)))
  by true = m3ua_fits plan s b
  by false = carried_fits plan s (m2pa b) (m2pa_apart s b)

given_fits : (plan : Network) (s : Subject) (c : DataChunk) (given : Given) → Fits (given_item plan s c given)
unfolding given_item
given_fits plan s c (Whole octets) = user_fits plan s c octets
given_fits plan s c Repeated = tt
given_fits plan s c (Waits None) = tt
given_fits plan s c (Waits (Some place)) = alone_fits place

chunk_fits : (plan : Network) (packet : ℕ) (g : Gathered) (k : ℕ) (c : DataChunk) → Fits (chunk_step plan packet g k c).item
unfolding chunk_step
chunk_fits plan packet g k c = by (is_read c) where
  by : (read : Bool) → Fits (cond read (given_step plan (on_chunk packet k) c (took g (received (place_of packet k) c)))
      (stays g (silent kinds.Other))).item
  by true = given_fits plan (on_chunk packet k) c (took g (received (place_of packet k) c)).1
  by false = tt

step_fits : (plan : Network) (packet : ℕ) (g : Gathered) (found : Carried) → packet < 2 ^ 64 → Fits (found_step plan packet g found).item
unfolding found_step
step_fits plan packet g (Chunk k c) lt = chunk_fits plan packet g k c
step_fits plan packet g (BadChunk k why) lt = carried_fits plan (on_packet packet) (BadChunk k why) tt
step_fits plan packet g (Signal t) lt = carried_fits plan (on_packet packet) (Signal t) tt
step_fits plan packet g (Bare octets) lt =
    carried_fits plan (on_packet packet) (Bare octets) (record { small = lt; no_chunk = refl })
step_fits plan packet g (Unread why) lt = carried_fits plan (on_packet packet) (Unread why) tt
step_fits plan packet g Other lt = carried_fits plan (on_packet packet) Other tt

-- ---- lines

-- only a packet adds to the number of packets
same_packets : (kind : Kind) (c : Counts) → (counted kind c).packets ≡ c.packets
same_packets kinds.Message c = refl
same_packets kinds.Left c = refl
same_packets kinds.Repeated c = refl
same_packets kinds.Other c = refl
same_packets kinds.Fault c = refl
same_packets kinds.Waiting c = refl

found_packets : (plan : Network) (found : List Carried) (s : Standing) → (all_found plan found s).now.counts.packets ≡ s.counts.packets
unfolding all_found
found_packets plan [] s = refl
found_packets plan (x ∷ xs) s =
    let step : Step = found_step plan s.counts.packets s.gathered x in
    found_packets plan xs (after_step s.counts step) ∙ same_packets step.item.kind s.counts

packet_packets : (plan : Network) (s : Standing) (packet : Captured) → (of_packet plan s packet).now.counts.packets ≡ s.counts.packets
unfolding of_packet
packet_packets plan s (Packet link original octets) = found_packets plan (or_other (found_in link original octets)) s
packet_packets plan s (Bad why) = refl

with_line_fits : (line : Option (List ℕ)) (lines : List (List ℕ)) → IfSome line FitsTrace → All FitsTrace lines
    → All FitsTrace (with_line line lines)
with_line_fits None lines h hs = hs
with_line_fits (Some line) lines h hs = All-cons FitsTrace line lines h hs

found_fit : (plan : Network) (found : List Carried) (s : Standing) → s.counts.packets < 2 ^ 64
    → All FitsTrace (all_found plan found s).lines
unfolding all_found
found_fit plan [] s lt = All-nil FitsTrace
found_fit plan (x ∷ xs) s lt =
    let step : Step = found_step plan s.counts.packets s.gathered x in
    with_line_fits step.item.line (all_found plan xs (after_step s.counts step)).lines (step_fits plan s.counts.packets s.gathered x lt)
    (found_fit plan xs (after_step s.counts step) (omega (arith, same_packets step.item.kind s.counts, lt)))

packet_fits : (plan : Network) (s : Standing) (packet : Captured) → s.counts.packets < 2 ^ 64
    → All FitsTrace (of_packet plan s packet).lines
unfolding of_packet
packet_fits plan s (Packet link original octets) lt = found_fit plan (or_other (found_in link original octets)) s lt
packet_fits plan s (Bad why) lt =
    All-cons FitsTrace _ [] (skipped_words (on_packet s.counts.packets) (bad_packet_word why) (words_of_bad why)) (All-nil FitsTrace)

fault_fits : (fault : Option FileFault) → All FitsTrace (fault_lines fault)
fault_fits None = All-nil FitsTrace
fault_fits (Some (Cut place)) =
    All-cons FitsTrace _ [] (octet_words place (codes "cut") (record { short = omega arith; plain = refl })) (All-nil FitsTrace)
fault_fits (Some (Damaged place why)) =
    All-cons FitsTrace _ [] (octet_words place (damage_words why) (words_of_damage why)) (All-nil FitsTrace)

waiting_fit : (waiting : List Received) → All FitsTrace (alone_lines waiting)
waiting_fit [] = All-nil FitsTrace
waiting_fit (r ∷ rs) = All-cons FitsTrace (alone_line r.place) (alone_lines rs) (alone_fits r.place) (waiting_fit rs)

last_fit : (c : Counts) (fault : Option FileFault) (waiting : List Received) → All FitsTrace (last_lines c fault waiting)
unfolding last_lines
last_fit c fault waiting =
    let last : List ℕ = end_line (counts_at_end c fault (length waiting)) in
    All-append FitsTrace (fault_lines fault) (alone_lines waiting ++ last ∷ []) (fault_fits fault)
    (All-append FitsTrace (alone_lines waiting) (last ∷ []) (waiting_fit waiting)
    (All-cons FitsTrace last [] (end_fits (counts_at_end c fault (length waiting))) (All-nil FitsTrace)))

after_fit : (plan : Network) (packets : List Captured) (fault : Option FileFault) (s : Standing)
    → s.counts.packets + length packets < 2 ^ 64 → All FitsTrace (lines_after plan packets fault s)
unfolding lines_after
after_fit plan [] fault s lt = last_fit s.counts fault s.gathered.waiting
after_fit plan (packet ∷ packets) fault s lt =
    All-append FitsTrace (taken plan s packet).lines (lines_after plan packets fault (taken plan s packet).now)
    (packet_fits plan (with_packet s) packet (omega (arith, lt)))
    (after_fit plan packets fault (taken plan s packet).now (omega (arith, packet_packets plan (with_packet s) packet, lt)))

pub fitting : (plan : Network) (told : Told) → length told.packets < 2 ^ 64 → All FitsTrace (lines_of plan told)
fitting plan told lt = after_fit plan told.packets told.fault beginning (omega (arith, lt))
