-- Worked packets, computed on the definitions. Each carries the chunk `one`, or shows what keeps a packet from carrying it.
use Rattle.std.specs.Prelude.{◌≡◌, ℕ, ◌++◌, true, false, List, [], ◌∷◌}
use Rattle.std.proofs.Common.{refl}
use Rattle.packet_layers.specs.declared.layer.Layer.TheVariants.{Ethernet, M2pa, Ip, Ipv6, Mtp2}
use Rattle.packet_layers.specs.declared.fault.Fault.TheVariants.{Link, Short, Bad, Fragment}
use Rattle.packet_layers.specs.declared.chunk_fault.ChunkFault.TheVariants as chunks
use Rattle.packet_layers.specs.Values.{DataChunk, Chunk, BadChunk, Signal, Bare, Unread, Other}
use Rattle.packet_layers.specs.Layers.{found_in, ethernet, cooked, cooked_2, raw, ip, is_ip, ip_size, ipv6, ipv6_size}
use Rattle.packet_layers.specs.Layers.{after_extensions, extension, is_extension, extension_size, is_fragment, fragment, by_type}
use Rattle.packet_layers.specs.Layers.{by_family, loopback, loopback_2, m2pa, is_m2pa}
use Rattle.packet_layers.specs.Layers.{is_tag, sctp, chunks_from, chunk_size, chunk_of, mtp2, mtp3, unit_of, sccp, whole_mtp3}

-- ---- parts of packets

-- ports 2905 and 2905, verification tag 11223344, no checksum
abbrev common : List ℕ
common = 0x0B ∷ 0x59 ∷ 0x0B ∷ 0x59 ∷ 0x11 ∷ 0x22 ∷ 0x33 ∷ 0x44 ∷ 0 ∷ 0 ∷ 0 ∷ 0 ∷ []

-- a DATA chunk for M3UA with five octets and three of padding
abbrev chunk : List ℕ
chunk = 0 ∷ 3 ∷ 0 ∷ 21 ∷ 0 ∷ 0 ∷ 0 ∷ 1 ∷ 0 ∷ 0 ∷ 0 ∷ 0 ∷ 0 ∷ 0 ∷ 0 ∷ 3 ∷ 1 ∷ 0 ∷ 1 ∷ 1 ∷ 1 ∷ 0 ∷ 0 ∷ 0 ∷ []

abbrev one : DataChunk
one = record {
  flow = record { source = 2905; destination = 2905; tag = 0x11223344 };
  tsn = 1;
  stream = 0;
  sequence = 0;
  protocol = 3;
  unordered = false;
  begins = true;
  ends = true;
  payload = 1 ∷ 0 ∷ 1 ∷ 1 ∷ 1 ∷ [];
}

-- two Ethernet addresses
abbrev addresses : List ℕ
addresses = 2 ∷ 2 ∷ 2 ∷ 2 ∷ 2 ∷ 2 ∷ 4 ∷ 4 ∷ 4 ∷ 4 ∷ 4 ∷ 4 ∷ []

-- an IPv4 header of 20 octets with this total length, fragment field and protocol
abbrev v4 : ℕ → ℕ → ℕ → List ℕ
v4 total place protocol = 0x45 ∷ 0 ∷ 0 ∷ total ∷ 0 ∷ 7 ∷ 0 ∷ place ∷ 64 ∷ protocol ∷ 0 ∷ 0 ∷ 10 ∷ 0 ∷ 0 ∷ 1 ∷ 10 ∷ 0 ∷ 0 ∷ 2 ∷ []

-- an IPv6 header with this payload length and next header
abbrev v6 : ℕ → ℕ → List ℕ
v6 size next =
    0x60 ∷ 0 ∷ 0 ∷ 0 ∷ 0 ∷ size ∷ next ∷ 64 ∷ 0 ∷ 0 ∷ 0 ∷ 0 ∷ 0 ∷ 0 ∷ 0 ∷ 0 ∷ 0 ∷ 0 ∷ 0 ∷ 0 ∷ 0 ∷ 0 ∷ 0 ∷ 1 ∷ 0 ∷ 0 ∷ 0 ∷ 0 ∷ 0
    ∷ 0 ∷ 0 ∷ 0 ∷ 0 ∷ 0 ∷ 0 ∷ 0 ∷ 0 ∷ 0 ∷ 0 ∷ 2 ∷ []

-- ---- links

on-ethernet : found_in 1 70 (addresses ++ (8 ∷ 0 ∷ []) ++ v4 56 0 132 ++ common ++ chunk) ≡ Chunk 1 one ∷ []
unfolding found_in ethernet by_type is_tag ip is_ip ip_size sctp chunks_from chunk_size chunk_of
on-ethernet = refl

two-tags : found_in 1 78 (addresses ++ (0x88 ∷ 0xA8 ∷ 0 ∷ 5 ∷ 0x81 ∷ 0 ∷ 0 ∷ 5 ∷ 8 ∷ 0 ∷ []) ++ v4 56 0 132 ++ common ++ chunk)
    ≡ Chunk 1 one ∷ []
unfolding found_in ethernet by_type is_tag ip is_ip ip_size sctp chunks_from chunk_size chunk_of
two-tags = refl

cut-tag : found_in 1 78 (addresses ++ 0x81 ∷ 0 ∷ 0 ∷ 5 ∷ 8 ∷ []) ≡ Unread (Short Ethernet) ∷ []
unfolding found_in ethernet by_type is_tag
cut-tag = refl

-- with an IP header of 24 octets
on-cooked : found_in 113 76 ((0 ∷ 0 ∷ 0 ∷ 1 ∷ 0 ∷ 6 ∷ 2 ∷ 2 ∷ 2 ∷ 2 ∷ 2 ∷ 2 ∷ 0 ∷ 0 ∷ 8 ∷ 0 ∷ []) ++ (0x46 ∷ 0 ∷ 0 ∷ 60 ∷ 0 ∷ 7 ∷ 0 ∷ 0
    ∷ 64 ∷ 132 ∷ 0 ∷ 0 ∷ 10 ∷ 0 ∷ 0 ∷ 1 ∷ 10 ∷ 0 ∷ 0 ∷ 2 ∷ 1 ∷ 1 ∷ 1 ∷ 0 ∷ []) ++ common ++ chunk) ≡ Chunk 1 one ∷ []
unfolding found_in cooked by_type is_tag ip is_ip ip_size sctp chunks_from chunk_size chunk_of
on-cooked = refl

on-cooked-2 : found_in 276 76 ((8 ∷ 0 ∷ 0 ∷ 0 ∷ 0 ∷ 0 ∷ 0 ∷ 3 ∷ 0 ∷ 1 ∷ 0 ∷ 6 ∷ 2 ∷ 2 ∷ 2 ∷ 2 ∷ 2 ∷ 2 ∷ 0 ∷ 0 ∷ []) ++ v4 56 0 132
    ++ common ++ chunk) ≡ Chunk 1 one ∷ []
unfolding found_in cooked_2 by_type is_tag ip is_ip ip_size sctp chunks_from chunk_size chunk_of
on-cooked-2 = refl

unknown-link : found_in 147 1 (1 ∷ []) ≡ Unread (Link 147) ∷ []
unfolding found_in
unknown-link = refl

-- ---- IP

-- the fragment field has "more fragments" and place 0
first-fragment : found_in 228 56 ((0x45 ∷ 0 ∷ 0 ∷ 56 ∷ 0 ∷ 7 ∷ 0x20 ∷ 0 ∷ 64 ∷ 132 ∷ 0 ∷ 0 ∷ 10 ∷ 0 ∷ 0 ∷ 1 ∷ 10 ∷ 0 ∷ 0 ∷ 2 ∷ [])
    ++ common ++ chunk) ≡ Unread Fragment ∷ []
unfolding found_in ip is_ip ip_size
first-fragment = refl

later-fragment : found_in 228 56 (v4 56 6 132 ++ common ++ chunk) ≡ Unread Fragment ∷ []
unfolding found_in ip is_ip ip_size
later-fragment = refl

other-protocol : found_in 228 56 (v4 56 0 6 ++ common ++ chunk) ≡ Other ∷ []
unfolding found_in ip is_ip
other-protocol = refl

no-total-length : found_in 228 56 (v4 0 0 132 ++ common ++ chunk) ≡ Chunk 1 one ∷ []
unfolding found_in ip is_ip ip_size sctp chunks_from chunk_size chunk_of
no-total-length = refl

-- octets after the total length are no part of the packet
trailer : found_in 228 60 (v4 56 0 132 ++ common ++ chunk ++ 0 ∷ 0 ∷ 0 ∷ 0 ∷ []) ≡ Chunk 1 one ∷ []
unfolding found_in ip is_ip ip_size sctp chunks_from chunk_size chunk_of
trailer = refl

cut-header : found_in 1 80 (addresses ++ 8 ∷ 0 ∷ 0x45 ∷ 0 ∷ 0 ∷ 56 ∷ 0 ∷ 7 ∷ 0 ∷ 0 ∷ 64 ∷ 132 ∷ 0 ∷ 0 ∷ 10 ∷ 0 ∷ 0 ∷ 1 ∷ [])
    ≡ Unread (Short Ip) ∷ []
unfolding found_in ethernet by_type is_tag ip
cut-header = refl

-- destination options of 16 octets and a fragment header that says the whole packet
two-extensions : found_in 101 100 (v6 60 60 ++ (44 ∷ 1 ∷ 1 ∷ 12 ∷ 0 ∷ 0 ∷ 0 ∷ 0 ∷ 0 ∷ 0 ∷ 0 ∷ 0 ∷ 0 ∷ 0 ∷ 0 ∷ 0 ∷ [])
    ++ (132 ∷ 0 ∷ 0 ∷ 0 ∷ 0
    ∷ 0 ∷ 0 ∷ 9 ∷ []) ++ common ++ chunk) ≡ Chunk 1 one ∷ []
unfolding found_in raw ipv6 ipv6_size after_extensions extension is_extension is_fragment extension_size sctp chunks_from chunk_size
    chunk_of
two-extensions = refl

-- a first fragment
more-fragments : found_in 229 84 (v6 44 44 ++ (132 ∷ 0 ∷ 0 ∷ 1 ∷ 0 ∷ 0 ∷ 0 ∷ 9 ∷ []) ++ common ++ chunk) ≡ Unread Fragment ∷ []
unfolding found_in ipv6 ipv6_size after_extensions extension is_extension is_fragment fragment
more-fragments = refl

cut-extension : found_in 229 84 (v6 44 60 ++ 132 ∷ 1 ∷ 0 ∷ 0 ∷ 0 ∷ 0 ∷ 0 ∷ 0 ∷ []) ≡ Unread (Short Ipv6) ∷ []
unfolding found_in ipv6 ipv6_size after_extensions extension is_extension is_fragment extension_size
cut-extension = refl

-- ---- SCTP

-- a SACK, a first fragment, a DATA chunk without user data, an I-DATA chunk, and one whose end was not captured
five-chunks : found_in 248 116 (common ++ (3 ∷ 0 ∷ 0 ∷ 16 ∷ 0 ∷ 0 ∷ 0 ∷ 3 ∷ 0 ∷ 0 ∷ 255 ∷ 255 ∷ 0 ∷ 0 ∷ 0 ∷ 0 ∷ [])
    ++ (0 ∷ 6 ∷ 0 ∷ 21 ∷ 0 ∷ 0 ∷ 0 ∷ 1 ∷ 0 ∷ 0 ∷ 0 ∷ 0 ∷ 0 ∷ 0 ∷ 0 ∷ 3 ∷ 1 ∷ 0 ∷ 1 ∷ 1 ∷ 1 ∷ 0 ∷ 0 ∷ 0 ∷ [])
    ++ (0 ∷ 3 ∷ 0 ∷ 16 ∷ 0 ∷ 0 ∷ 0 ∷ 2 ∷ 0 ∷ 0 ∷ 0 ∷ 0 ∷ 0 ∷ 0 ∷ 0 ∷ 3 ∷ [])
    ++ (64 ∷ 3 ∷ 0 ∷ 21 ∷ 0 ∷ 0 ∷ 0 ∷ 3 ∷ 0 ∷ 0 ∷ 0 ∷ 0 ∷ 0 ∷ 0 ∷ 0 ∷ 3 ∷ 1 ∷ 0 ∷ 1 ∷ 1 ∷ 2 ∷ 0 ∷ 0 ∷ 0 ∷ [])
    ++ (0 ∷ 3 ∷ 0 ∷ 99 ∷ 0 ∷ 0 ∷ 0 ∷ 4 ∷ 0 ∷ 0 ∷ 0 ∷ 0 ∷ 0 ∷ 0 ∷ 0 ∷ 3 ∷ 1 ∷ 0 ∷ 1 ∷ 1 ∷ 3 ∷ 0 ∷ 0 ∷ 0 ∷ []))
    ≡ Other ∷ Chunk 2 (record one { unordered = true; ends = false }) ∷ BadChunk 3 chunks.Bad ∷ BadChunk 4 chunks.Interleaved
    ∷ BadChunk 5 chunks.Short ∷ []
unfolding found_in sctp chunks_from chunk_size chunk_of
five-chunks = refl

cut-chunk : found_in 248 36 (common ++ 0 ∷ 3 ∷ 0 ∷ 21 ∷ 0 ∷ 0 ∷ 0 ∷ 1 ∷ []) ≡ BadChunk 1 chunks.Short ∷ []
unfolding found_in sctp chunks_from chunk_size
cut-chunk = refl

no-chunk-captured : found_in 248 36 common ≡ BadChunk 1 chunks.Short ∷ []
unfolding found_in sctp chunks_from chunk_size
no-chunk-captured = refl

-- ---- loopback

-- captured on a machine with the least significant octet first, and on one with the most significant
on-loopback : found_in 0 60 ((2 ∷ 0 ∷ 0 ∷ 0 ∷ []) ++ v4 56 0 132 ++ common ++ chunk) ≡ Chunk 1 one ∷ []
unfolding found_in loopback by_family ip is_ip ip_size sctp chunks_from chunk_size chunk_of
on-loopback = refl

on-loopback-big : found_in 0 60 ((0 ∷ 0 ∷ 0 ∷ 2 ∷ []) ++ v4 56 0 132 ++ common ++ chunk) ≡ Chunk 1 one ∷ []
unfolding found_in loopback by_family ip is_ip ip_size sctp chunks_from chunk_size chunk_of
on-loopback-big = refl

on-loopback-2 : found_in 108 80 ((0 ∷ 0 ∷ 0 ∷ 30 ∷ []) ++ v6 36 132 ++ common ++ chunk) ≡ Chunk 1 one ∷ []
unfolding found_in loopback_2 by_family ipv6 ipv6_size after_extensions sctp chunks_from chunk_size chunk_of
on-loopback-2 = refl

-- ---- M2PA

user-data : m2pa ((1 ∷ 0 ∷ 11 ∷ 1 ∷ 0 ∷ 0 ∷ 0 ∷ 23 ∷ 0 ∷ 0 ∷ 0 ∷ 7 ∷ 0 ∷ 0 ∷ 0 ∷ 8 ∷ []) ++ 0 ∷ 0x83 ∷ 0x02 ∷ 0x48 ∷ 0x00 ∷ 0x52 ∷ 9 ∷ [])
    ≡ Signal (record { origin = 2049; destination = 2050; service = 3; payload = 9 ∷ [] })
unfolding m2pa is_m2pa mtp3
user-data = refl

acknowledgement : m2pa (1 ∷ 0 ∷ 11 ∷ 1 ∷ 0 ∷ 0 ∷ 0 ∷ 16 ∷ 0 ∷ 0 ∷ 0 ∷ 7 ∷ 0 ∷ 0 ∷ 0 ∷ 8 ∷ []) ≡ Other
unfolding m2pa is_m2pa
acknowledgement = refl

link-status : m2pa (1 ∷ 0 ∷ 11 ∷ 2 ∷ 0 ∷ 0 ∷ 0 ∷ 20 ∷ 0 ∷ 0xFF ∷ 0xFF ∷ 0xFF ∷ 0 ∷ 0xFF ∷ 0xFF ∷ 0xFF ∷ 0 ∷ 0 ∷ 0 ∷ 1 ∷ []) ≡ Other
unfolding m2pa is_m2pa
link-status = refl

cut-user-data : m2pa (1 ∷ 0 ∷ 11 ∷ 1 ∷ 0 ∷ 0 ∷ 0 ∷ 23 ∷ 0 ∷ 0 ∷ 0 ∷ 7 ∷ 0 ∷ 0 ∷ 0 ∷ 8 ∷ 0 ∷ 0x83 ∷ []) ≡ Unread (Bad M2pa)
unfolding m2pa is_m2pa
cut-user-data = refl

-- ---- MTP and SCCP

bare : found_in 142 1 (9 ∷ []) ≡ Bare (9 ∷ []) ∷ []
unfolding found_in sccp
bare = refl

labelled : found_in 141 7 (0x83 ∷ 0x02 ∷ 0x48 ∷ 0x00 ∷ 0x52 ∷ 9 ∷ 8 ∷ [])
    ≡ Signal (record { origin = 2049; destination = 2050; service = 3; payload = 9 ∷ 8 ∷ [] }) ∷ []
unfolding found_in whole_mtp3 mtp3
labelled = refl

-- two octets are after those that the length indicator counts
counted : found_in 140 11 (128 ∷ 128 ∷ 6 ∷ 0x83 ∷ 0x02 ∷ 0x48 ∷ 0x00 ∷ 0x52 ∷ 9 ∷ 222 ∷ 173 ∷ [])
    ≡ Signal (record { origin = 2049; destination = 2050; service = 3; payload = 9 ∷ [] }) ∷ []
unfolding found_in mtp2 unit_of mtp3
counted = refl

status-unit : found_in 140 4 (128 ∷ 128 ∷ 1 ∷ 0 ∷ []) ≡ Other ∷ []
unfolding found_in mtp2 unit_of
status-unit = refl

cut-unit : found_in 140 9 (128 ∷ 128 ∷ 6 ∷ 0x83 ∷ 0x02 ∷ 0x48 ∷ 0x00 ∷ 0x52 ∷ []) ≡ Unread (Short Mtp2) ∷ []
unfolding found_in mtp2 unit_of
cut-unit = refl
