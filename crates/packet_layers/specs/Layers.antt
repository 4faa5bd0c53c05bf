-- What a packet carries, link by link: the chunks of an SCTP packet, a message of MTP3 with its point codes, or a message of
-- SCCP alone.
use Rattle.std.specs.Prelude.{ℕ, zero, suc, ◌+◌, ◌-◌, ◌*◌, ◌/◌, ◌%◌, ◌^◌, ◌&&◌, ◌||◌, ◌==◌, Bool, not, nat_le, nat_lt, max}
use Rattle.std.specs.Prelude.{if◌then◌else◌, List, [], ◌∷◌, length, take, drop, slice_range, slice_index, Result, Ok, Err}
use Rattle.packet_layers.specs.declared.flow.Flow.{Flow}
use Rattle.packet_layers.specs.declared.layer.Layer.TheVariants.{Ethernet, Cooked, Loopback, Ip, Ipv6, Sctp, M2pa, Mtp2, Mtp3, Sccp}
use Rattle.packet_layers.specs.declared.fault.Fault.TheVariants.{Link, Short, Bad, Fragment}
use Rattle.packet_layers.specs.declared.chunk_fault.ChunkFault.{ChunkFault}
use Rattle.packet_layers.specs.declared.chunk_fault.ChunkFault.TheVariants as chunks
use Rattle.packet_layers.specs.Values.{DataChunk, Transferred, Carried, Chunk, BadChunk, Signal, Bare, Unread, Other}
use Rattle.packet_layers.specs.Numbers.{number_2, number_4, little_4, up_to_four, bit}

-- ---- SCTP (RFC 9260, section 3)

-- a DATA chunk of at least 17 octets
abbrev pub data_of : Flow → List ℕ → DataChunk
data_of flow b = record {
  flow = flow;
  tsn = number_4 b 4;
  stream = number_2 b 8;
  sequence = number_2 b 10;
  protocol = number_4 b 12;
  unordered = bit (slice_index b 1) 2;
  begins = bit (slice_index b 1) 1;
  ends = bit (slice_index b 1) 0;
  payload = drop 16 b;
}

-- a whole chunk without padding, by its type: 0 is DATA, 64 is I-DATA
unfoldable pub chunk_of : ℕ → Flow → List ℕ → Carried
chunk_of i flow b =
    if slice_index b 0 == 64 then BadChunk i chunks.Interleaved
    else if not (slice_index b 0 == 0) then Other
    else if nat_lt (length b) 17 then BadChunk i chunks.Bad
    else Chunk i (data_of flow b)

-- the length of the first chunk, if it is possible and all of the chunk was captured
unfoldable pub chunk_size : List ℕ → Result ℕ ChunkFault
chunk_size b =
    if nat_lt (length b) 4 then Err chunks.Short
    else if nat_lt (number_2 b 2) 4 then Err chunks.Bad
    else if nat_lt (length b) (number_2 b 2) then Err chunks.Short
    else Ok (number_2 b 2)

-- the first chunk, and then those after it and its padding
abbrev pub chunk_then : (ℕ → List Carried) → ℕ → Flow → List ℕ → Result ℕ ChunkFault → List Carried
chunk_then next i flow b (Err fault) = BadChunk i fault ∷ []
chunk_then next i flow b (Ok size) = chunk_of i flow (take size b) ∷ next (up_to_four size)

-- The chunks from number i on of a packet that had this number of octets from there on, of which b were captured. A packet
-- has at most the given number of chunks.
unfoldable pub chunks_from : ℕ → ℕ → Flow → ℕ → List ℕ → List Carried
chunks_from zero i flow whole b = []
chunks_from (suc most) i flow whole b =
    if whole == 0 then []
    else chunk_then (λ used. chunks_from most (i + 1) flow (whole - used) (drop used b)) i flow b (chunk_size b)

-- ports and verification tag of the common header
abbrev pub flow_of : List ℕ → Flow
flow_of b = record { source = number_2 b 0; destination = number_2 b 2; tag = number_4 b 4 }

-- A packet that had this number of octets, of which b were captured. Each chunk but the last has at least four octets.
unfoldable pub sctp : ℕ → List ℕ → List Carried
sctp whole b =
    if nat_lt (length b) 12 then Unread (Short Sctp) ∷ []
    else chunks_from (length b) 1 (flow_of b) (whole - 12) (drop 12 b)

-- ---- MTP (Q.703, section 2; Q.704, sections 2.2 and 14.2)

-- the routing label: 14 bits of destination, 14 bits of origin, 4 bits of signalling link selection
abbrev pub label : List ℕ → ℕ
label b = little_4 b 1

abbrev pub transfer_of : List ℕ → Transferred
transfer_of b = record {
  origin = label b / 2 ^ 14 % 2 ^ 14;
  destination = label b % 2 ^ 14;
  service = slice_index b 0 % 16;
  payload = drop 5 b;
}

-- service information octet, label, and the user's octets
unfoldable pub mtp3 : List ℕ → Carried
mtp3 b = if nat_lt (length b) 5 then Unread (Short Mtp3) else Signal (transfer_of b)

-- a signal unit of at least three octets that had this number, by its length indicator, of which 63 says 63 or more
unfoldable pub unit_of : ℕ → ℕ → List ℕ → Carried
unit_of indicator original b =
    if nat_lt indicator 3 then Other
    else if indicator == 63 then (if nat_lt (length b) original || nat_lt (length b) 66 then Unread (Short Mtp2) else mtp3 (drop 3 b))
    else if nat_lt (length b) (3 + indicator) then Unread (Short Mtp2)
    else mtp3 (slice_range b 3 (3 + indicator))

unfoldable pub mtp2 : ℕ → List ℕ → Carried
mtp2 original b = if nat_lt (length b) 3 then Unread (Short Mtp2) else unit_of (slice_index b 2 % 64) original b

-- ---- M2PA (RFC 4165, section 2)

-- version 1, class 11, and a length that has room for the headers and is there
unfoldable pub is_m2pa : List ℕ → Bool
is_m2pa b = (slice_index b 0 == 1) && ((slice_index b 2 == 11) && (nat_le 16 (number_4 b 4) && nat_le (number_4 b 4) (length b)))

-- A message of M2PA, as the user data of SCTP has it: a common header of eight octets, two sequence numbers in eight more, and
-- of User Data (type 1) a priority octet and the message of MTP3. User Data without data only acknowledges.
unfoldable pub m2pa : List ℕ → Carried
m2pa b =
    if nat_lt (length b) 16 then Unread (Short M2pa)
    else if not (is_m2pa b) then Unread (Bad M2pa)
    else if not (slice_index b 3 == 1) then Other
    else if nat_lt (number_4 b 4) 17 then Other
    else mtp3 (slice_range b 17 (number_4 b 4))

-- ---- IPv4 (RFC 791)

abbrev pub ip_header : List ℕ → ℕ
ip_header b = slice_index b 0 % 16 * 4

-- The octets after the header. Total length 0, as network cards with segmentation write it, is the whole packet.
unfoldable pub ip_size : List ℕ → ℕ
ip_size b = if number_2 b 2 == 0 then length b - ip_header b else number_2 b 2 - ip_header b

-- version 4, a header of at least 20 octets, and a total length that has room for it
unfoldable pub is_ip : List ℕ → Bool
is_ip b =
    (slice_index b 0 / 16 == 4) && (nat_le 20 (ip_header b) && ((number_2 b 2 == 0) || nat_le (ip_header b) (number_2 b 2)))

-- Protocol 132 is SCTP. The lowest 14 of 16 bits are "more fragments" and the fragment's place.
unfoldable pub ip : List ℕ → List Carried
ip b =
    if nat_lt (length b) 20 then Unread (Short Ip) ∷ []
    else if not (is_ip b) then Unread (Bad Ip) ∷ []
    else if nat_lt (length b) (ip_header b) then Unread (Short Ip) ∷ []
    else if not (slice_index b 9 == 132) then Other ∷ []
    else if not (number_2 b 6 % 2 ^ 14 == 0) then Unread Fragment ∷ []
    else sctp (ip_size b) (take (ip_size b) (drop (ip_header b) b))

-- ---- IPv6 (RFC 8200)

-- the extension headers: hop-by-hop options, routing, destination options, fragment, authentication (RFC 4302)
unfoldable pub is_extension : ℕ → Bool
is_extension kind = (kind == 0) || ((kind == 43) || ((kind == 60) || ((kind == 44) || (kind == 51))))

unfoldable pub extension_size : ℕ → List ℕ → ℕ
extension_size kind b =
    if kind == 44 then 8 else if kind == 51 then 4 * (slice_index b 1 + 2) else 8 * (slice_index b 1 + 1)

-- a fragment header with a place, or after which more come; the two bits between are reserved
unfoldable pub is_fragment : ℕ → List ℕ → Bool
is_fragment kind b = (kind == 44) && (not (number_2 b 2 / 8 == 0) || bit (slice_index b 3) 0)

-- a fragment, which is not read if it carries SCTP
unfoldable pub fragment : List ℕ → Carried
fragment b = if slice_index b 0 == 132 then Unread Fragment else Other

-- the size of the extension header of this kind, or what the packet carries if there is none that can be passed over
unfoldable pub extension : ℕ → List ℕ → Result ℕ Carried
extension kind b =
    if not (is_extension kind) then Err Other
    else if nat_lt (length b) 8 then Err (Unread (Short Ipv6))
    else if is_fragment kind b then Err (fragment b)
    else if nat_lt (length b) (extension_size kind b) then Err (Unread (Short Ipv6))
    else Ok (extension_size kind b)

abbrev pub extension_then : (ℕ → List Carried) → Result ℕ Carried → List Carried
extension_then next (Err carried) = carried ∷ []
extension_then next (Ok size) = next size

-- what is after the extension headers, of which there are at most the given number
unfoldable pub after_extensions : ℕ → ℕ → ℕ → List ℕ → List Carried
after_extensions zero kind whole b = Other ∷ []
after_extensions (suc most) kind whole b =
    if kind == 132 then sctp whole b
    else extension_then (λ size. after_extensions most (slice_index b 0) (whole - size) (drop size b)) (extension kind b)

-- the octets after the header; payload length 0, as above, is the whole packet
unfoldable pub ipv6_size : List ℕ → ℕ
ipv6_size b = if number_2 b 4 == 0 then length b - 40 else number_2 b 4

unfoldable pub ipv6 : List ℕ → List Carried
ipv6 b =
    if nat_lt (length b) 40 then Unread (Short Ipv6) ∷ []
    else if not (slice_index b 0 / 16 == 6) then Unread (Bad Ipv6) ∷ []
    else after_extensions (length b) (slice_index b 6) (ipv6_size b) (take (ipv6_size b) (drop 40 b))

-- ---- Links

-- the tags of virtual networks (IEEE 802.1Q)
unfoldable pub is_tag : ℕ → Bool
is_tag kind = (kind == 0x8100) || ((kind == 0x88A8) || (kind == 0x9100))

-- what is after a type and after tags, of which there are at most the given number
unfoldable pub by_type : ℕ → ℕ → List ℕ → List Carried
by_type zero kind b = Other ∷ []
by_type (suc most) kind b =
    if is_tag kind then (if nat_lt (length b) 4 then Unread (Short Ethernet) ∷ [] else by_type most (number_2 b 2) (drop 4 b))
    else if kind == 0x0800 then ip b
    else if kind == 0x86DD then ipv6 b
    else Other ∷ []

unfoldable pub ethernet : List ℕ → List Carried
ethernet b = if nat_lt (length b) 14 then Unread (Short Ethernet) ∷ [] else by_type (length b) (number_2 b 12) (drop 14 b)

unfoldable pub cooked : List ℕ → List Carried
cooked b = if nat_lt (length b) 16 then Unread (Short Cooked) ∷ [] else by_type (length b) (number_2 b 14) (drop 16 b)

unfoldable pub cooked_2 : List ℕ → List Carried
cooked_2 b = if nat_lt (length b) 20 then Unread (Short Cooked) ∷ [] else by_type (length b) (number_2 b 0) (drop 20 b)

-- The address family of a BSD loopback: 2 is IPv4, and by the system 24, 28 or 30 is IPv6.
unfoldable pub by_family : ℕ → List ℕ → List Carried
by_family family b =
    if family == 2 then ip b
    else if (family == 24) || ((family == 28) || (family == 30)) then ipv6 b
    else Other ∷ []

-- The family is in the order of the machine that captured the packet. It is below 65,536, so a number above that is in the
-- other order.
unfoldable pub loopback : List ℕ → List Carried
loopback b =
    if nat_lt (length b) 4 then Unread (Short Loopback) ∷ []
    else if nat_lt (little_4 b 0) 65536 then by_family (little_4 b 0) (drop 4 b)
    else by_family (number_4 b 0) (drop 4 b)

-- the same with the most significant octet first
unfoldable pub loopback_2 : List ℕ → List Carried
loopback_2 b = if nat_lt (length b) 4 then Unread (Short Loopback) ∷ [] else by_family (number_4 b 0) (drop 4 b)

-- IP of either version
unfoldable pub raw : List ℕ → List Carried
raw b =
    if length b == 0 then Unread (Short Ip) ∷ []
    else if slice_index b 0 / 16 == 4 then ip b
    else if slice_index b 0 / 16 == 6 then ipv6 b
    else Unread (Bad Ip) ∷ []

-- a message that is read only if all of it was captured
unfoldable pub sccp : ℕ → List ℕ → Carried
sccp original b = if nat_lt (length b) original then Unread (Short Sccp) else Bare b

unfoldable pub whole_mtp3 : ℕ → List ℕ → Carried
whole_mtp3 original b = if nat_lt (length b) original then Unread (Short Mtp3) else mtp3 b

-- What the octets carry of a packet that came by this link and had the original number of octets. The numbers of links are
-- those of tcpdump's list of link types.
unfoldable pub found_in : ℕ → ℕ → List ℕ → List Carried
found_in link original b =
    if link == 1 then ethernet b
    else if link == 113 then cooked b
    else if link == 276 then cooked_2 b
    else if (link == 101) || ((link == 12) || (link == 14)) then raw b
    else if link == 0 then loopback b
    else if link == 108 then loopback_2 b
    else if link == 228 then ip b
    else if link == 229 then ipv6 b
    else if link == 248 then sctp (max (length b) original) b
    else if link == 142 then sccp original b ∷ []
    else if link == 141 then whole_mtp3 original b ∷ []
    else if link == 140 then mtp2 original b ∷ []
    else Unread (Link link) ∷ []
