-- What is found by any link is in the octets of the packet.
use Rattle.std.proofs.Common.{◌≡◌, ℕ, zero, suc, ◌+◌, ◌-◌, ◌*◌, ◌/◌, ◌%◌, ◌^◌, ◌≤◌, ◌||◌, eqb, ltb, not}
use Rattle.std.proofs.Common.{List, [], ◌∷◌, length, take, drop, get_or, max, map, Result, Ok, Err, IfOk, subst, refl, sym, ◌∙◌, ap, arith}
use Rattle.std.specs.Prelude.{slice_range}
use Rattle.std.specs.List.{All}
use Rattle.std.proofs.lemmas.Bool.{ltb-false}
use Rattle.std.proofs.lemmas.List.Elements.{All-head}
use Rattle.std.proofs.lemmas.List.{append-nil, drop_more}
use Rattle.packet_layers.specs.declared.layer.Layer.TheVariants.{Ethernet, Cooked, Loopback, M2pa, Ip, Ipv6, Mtp2, Mtp3, Sccp}
use Rattle.packet_layers.specs.declared.fault.Fault.TheVariants.{Link, Short, Bad, Fragment}
use Rattle.packet_layers.specs.declared.found.Found.{Found}
use Rattle.packet_layers.specs.Numbers.{number_2, number_4, little_4}
use Rattle.packet_layers.specs.Values.{Carried, Chunk, BadChunk, Signal, Bare, Unread, Other, found_as}
use Rattle.packet_layers.specs.Layers.{by_family, loopback, loopback_2, m2pa, is_m2pa, transfer_of, label, mtp3, unit_of, mtp2, ip}
use Rattle.packet_layers.specs.Layers.{ip_header, ip_size, is_ip, is_extension}
use Rattle.packet_layers.specs.Layers.{extension_size, is_fragment, fragment, extension, extension_then, after_extensions, ipv6}
use Rattle.packet_layers.specs.Layers.{ipv6_size, is_tag, by_type, ethernet, cooked, cooked_2, raw, sccp, whole_mtp3, sctp, found_in}
use Rattle.packet_layers.specs.Places.{HasTransfer, IsIn}
use Rattle.packet_layers.proofs.Octets.{AreOctets, AreOctets-drop, AreOctets-take, spelled_little}
use Rattle.packet_layers.proofs.InPacket.{either, both, one, each, Within, IsPart, is_take, is_drop, widen, sctp_in}

alone : (b : List ℕ) (c : Carried) → Within b c → All (Within b) (c ∷ [])
alone b c p = one (Within b) c p

-- ---- MTP

transfer_in : (b : List ℕ) → AreOctets b → 5 ≤ length b → HasTransfer b (transfer_of b)
transfer_in b octets some =
    let number = label b in
    let parts : number % 2 ^ 14 + 2 ^ 14 * (number / 2 ^ 14 % 2 ^ 14) + 2 ^ 28 * (number / 2 ^ 28) ≡ number = omega arith in
    let front : drop 0 b ≡ get_or b 0 0 ∷ drop 1 b = drop_more b 0 0 (omega arith) in
    record {
      before = [];
      information = get_or b 0 0;
      selection = number / 2 ^ 28;
      after = [];
      parts = front ∙ ap (λ (l : List ℕ). get_or b 0 0 ∷ l) (sym (spelled_little b 1 _ octets (omega arith) parts)) ∙ sym (append-nil _);
      service = refl;
      origin = omega arith;
      destination = omega arith;
    }

mtp3_in : (b : List ℕ) → AreOctets b → Within b (mtp3 b)
unfolding mtp3
mtp3_in b octets = either (Within b) (ltb (length b) 5) (Unread (Short Mtp3)) (Signal (transfer_of b)) (λ t. tt)
    (λ f. transfer_in b octets (ltb-false (length b) 5 f))

part_in : (part b : List ℕ) → AreOctets part → IsPart part b → All (Within b) (mtp3 part ∷ [])
part_in part b octets p = widen part b (mtp3 part ∷ []) p (alone part (mtp3 part) (mtp3_in part octets))

m2pa_in : (b : List ℕ) → AreOctets b → All (Within b) (m2pa b ∷ [])
unfolding m2pa
m2pa_in b octets =
    let size = number_4 b 4 in
    let P = λ (c : Carried). All (Within b) (c ∷ []) in
    both P (ltb (length b) 16) (Unread (Short M2pa)) _ (alone b (Unread (Short M2pa)) tt)
    (both P (not (is_m2pa b)) (Unread (Bad M2pa)) _ (alone b (Unread (Bad M2pa)) tt)
    (both P (not (eqb (get_or b 3 0) 1)) Other _ (alone b Other tt)
    (both P (ltb size 17) Other (mtp3 (slice_range b 17 size)) (alone b Other tt)
    (widen (drop 17 b) b (mtp3 (take (size - 17) (drop 17 b)) ∷ []) (is_drop 17 b)
    (part_in (take (size - 17) (drop 17 b)) (drop 17 b) (AreOctets-take (size - 17) (drop 17 b) (AreOctets-drop 17 b octets))
    (is_take (size - 17) (drop 17 b)))))))

-- ---- IP

ip_in : (b : List ℕ) → AreOctets b → All (Within b) (ip b)
unfolding ip
ip_in b octets =
    let inner : List ℕ = drop (ip_header b) b in
    let part : List ℕ = take (ip_size b) inner in
    both (All (Within b)) (ltb (length b) 20) (Unread (Short Ip) ∷ []) _ (alone b (Unread (Short Ip)) tt)
    (both (All (Within b)) (not (is_ip b)) (Unread (Bad Ip) ∷ []) _ (alone b (Unread (Bad Ip)) tt)
    (both (All (Within b)) (ltb (length b) (ip_header b)) (Unread (Short Ip) ∷ []) _ (alone b (Unread (Short Ip)) tt)
    (both (All (Within b)) (not (eqb (get_or b 9 0) 132)) (Other ∷ []) _ (alone b Other tt)
    (both (All (Within b)) (not (eqb (number_2 b 6 % 2 ^ 14) 0)) (Unread Fragment ∷ []) (sctp (ip_size b) part)
    (alone b (Unread Fragment) tt)
    (widen inner b _ (is_drop (ip_header b) b) (widen part inner _ (is_take (ip_size b) inner)
    (sctp_in (ip_size b) part (AreOctets-take (ip_size b) inner (AreOctets-drop (ip_header b) b octets)))))))))

fragment_in : (b : List ℕ) → Within b (fragment b)
unfolding fragment
fragment_in b = both (Within b) (eqb (get_or b 0 0) 132) (Unread Fragment) Other tt tt

-- what keeps a packet from being read is within any octets
abbrev Stops : List ℕ → Result ℕ Carried → Type 0
Stops b (Ok size) = Unit {0}
Stops b (Err carried) = Within b carried

extension_in : (kind : ℕ) (b : List ℕ) → Stops b (extension kind b)
unfolding extension
extension_in kind b =
    both (Stops b) (not (is_extension kind)) (Err Other) _ tt
    (both (Stops b) (ltb (length b) 8) (Err (Unread (Short Ipv6))) _ tt
    (both (Stops b) (is_fragment kind b) (Err (fragment b)) _ (fragment_in b)
    (both (Stops b) (ltb (length b) (extension_size kind b)) (Err (Unread (Short Ipv6))) (Ok (extension_size kind b)) tt tt)))

then_in : (next : ℕ → List Carried) (b : List ℕ) (r : Result ℕ Carried) → Stops b r → ((size : ℕ) → All (Within b) (next size))
    → All (Within b) (extension_then next r)
then_in next b (Err c) stops rest = alone b c stops
then_in next b (Ok size) stops rest = rest size

after_in : (most kind whole : ℕ) (b : List ℕ) → AreOctets b → All (Within b) (after_extensions most kind whole b)
unfolding after_extensions
after_in zero kind whole b octets = alone b Other tt
after_in (suc most) kind whole b octets =
    both (All (Within b)) (eqb kind 132) (sctp whole b) _ (sctp_in whole b octets)
    (then_in (λ size. after_extensions most (get_or b 0 0) (whole - size) (drop size b)) b (extension kind b) (extension_in kind b)
    (λ size. widen (drop size b) b _ (is_drop size b)
    (after_in most (get_or b 0 0) (whole - size) (drop size b) (AreOctets-drop size b octets))))

ipv6_in : (b : List ℕ) → AreOctets b → All (Within b) (ipv6 b)
unfolding ipv6
ipv6_in b octets =
    let inner : List ℕ = drop 40 b in
    let part : List ℕ = take (ipv6_size b) inner in
    both (All (Within b)) (ltb (length b) 40) (Unread (Short Ipv6) ∷ []) _ (alone b (Unread (Short Ipv6)) tt)
    (both (All (Within b)) (not (eqb (get_or b 0 0 / 16) 6)) (Unread (Bad Ipv6) ∷ [])
    (after_extensions (length b) (get_or b 6 0) (ipv6_size b) part) (alone b (Unread (Bad Ipv6)) tt)
    (widen inner b _ (is_drop 40 b) (widen part inner _ (is_take (ipv6_size b) inner)
    (after_in (length b) (get_or b 6 0) (ipv6_size b) part (AreOctets-take (ipv6_size b) inner (AreOctets-drop 40 b octets))))))

-- ---- links

by_type_in : (most kind : ℕ) (b : List ℕ) → AreOctets b → All (Within b) (by_type most kind b)
unfolding by_type
by_type_in zero kind b octets = alone b Other tt
by_type_in (suc most) kind b octets =
    both (All (Within b)) (is_tag kind) _ _
    (both (All (Within b)) (ltb (length b) 4) (Unread (Short Ethernet) ∷ []) (by_type most (number_2 b 2) (drop 4 b))
    (alone b (Unread (Short Ethernet)) tt)
    (widen (drop 4 b) b _ (is_drop 4 b) (by_type_in most (number_2 b 2) (drop 4 b) (AreOctets-drop 4 b octets))))
    (both (All (Within b)) (eqb kind 0x0800) (ip b) _ (ip_in b octets)
    (both (All (Within b)) (eqb kind 0x86DD) (ipv6 b) (Other ∷ []) (ipv6_in b octets) (alone b Other tt)))

-- after a header of this size
header_in : (size kind : ℕ) (b : List ℕ) → AreOctets b → All (Within b) (by_type (length b) kind (drop size b))
header_in size kind b octets =
    widen (drop size b) b _ (is_drop size b) (by_type_in (length b) kind (drop size b) (AreOctets-drop size b octets))

ethernet_in : (b : List ℕ) → AreOctets b → All (Within b) (ethernet b)
unfolding ethernet
ethernet_in b octets = both (All (Within b)) (ltb (length b) 14) (Unread (Short Ethernet) ∷ []) _ (alone b (Unread (Short Ethernet)) tt)
    (header_in 14 (number_2 b 12) b octets)

cooked_in : (b : List ℕ) → AreOctets b → All (Within b) (cooked b)
unfolding cooked
cooked_in b octets = both (All (Within b)) (ltb (length b) 16) (Unread (Short Cooked) ∷ []) _ (alone b (Unread (Short Cooked)) tt)
    (header_in 16 (number_2 b 14) b octets)

cooked_2_in : (b : List ℕ) → AreOctets b → All (Within b) (cooked_2 b)
unfolding cooked_2
cooked_2_in b octets = both (All (Within b)) (ltb (length b) 20) (Unread (Short Cooked) ∷ []) _ (alone b (Unread (Short Cooked)) tt)
    (header_in 20 (number_2 b 0) b octets)

by_family_in : (family : ℕ) (b : List ℕ) → AreOctets b → All (Within b) (by_family family (drop 4 b))
unfolding by_family
by_family_in family b octets =
    let inner : List ℕ = drop 4 b in
    let octets' : AreOctets inner = AreOctets-drop 4 b octets in
    widen inner b _ (is_drop 4 b)
    (both (All (Within inner)) (eqb family 2) (ip inner) _ (ip_in inner octets')
    (both (All (Within inner)) (eqb family 24 || (eqb family 28 || eqb family 30)) (ipv6 inner) (Other ∷ []) (ipv6_in inner octets')
    (alone inner Other tt)))

loopback_in : (b : List ℕ) → AreOctets b → All (Within b) (loopback b)
unfolding loopback
loopback_in b octets =
    both (All (Within b)) (ltb (length b) 4) (Unread (Short Loopback) ∷ []) _ (alone b (Unread (Short Loopback)) tt)
    (both (All (Within b)) (ltb (little_4 b 0) 65536) (by_family (little_4 b 0) (drop 4 b)) (by_family (number_4 b 0) (drop 4 b))
    (by_family_in (little_4 b 0) b octets) (by_family_in (number_4 b 0) b octets))

loopback_2_in : (b : List ℕ) → AreOctets b → All (Within b) (loopback_2 b)
unfolding loopback_2
loopback_2_in b octets =
    both (All (Within b)) (ltb (length b) 4) (Unread (Short Loopback) ∷ []) (by_family (number_4 b 0) (drop 4 b))
    (alone b (Unread (Short Loopback)) tt) (by_family_in (number_4 b 0) b octets)

raw_in : (b : List ℕ) → AreOctets b → All (Within b) (raw b)
unfolding raw
raw_in b octets =
    both (All (Within b)) (eqb (length b) 0) (Unread (Short Ip) ∷ []) _ (alone b (Unread (Short Ip)) tt)
    (both (All (Within b)) (eqb (get_or b 0 0 / 16) 4) (ip b) _ (ip_in b octets)
    (both (All (Within b)) (eqb (get_or b 0 0 / 16) 6) (ipv6 b) (Unread (Bad Ip) ∷ []) (ipv6_in b octets)
    (alone b (Unread (Bad Ip)) tt)))

mtp2_in : (original : ℕ) (b : List ℕ) → AreOctets b → All (Within b) (mtp2 original b ∷ [])
unfolding mtp2 unit_of
mtp2_in original b octets =
    let indicator = get_or b 2 0 % 64 in
    let P = λ (c : Carried). All (Within b) (c ∷ []) in
    let short : All (Within b) (Unread (Short Mtp2) ∷ []) = alone b (Unread (Short Mtp2)) tt in
    both P (ltb (length b) 3) (Unread (Short Mtp2)) _ short
    (both P (ltb indicator 3) Other _ (alone b Other tt)
    (both P (eqb indicator 63) _ _
    (both P (ltb (length b) original || ltb (length b) 66) (Unread (Short Mtp2)) (mtp3 (drop 3 b)) short
    (part_in (drop 3 b) b (AreOctets-drop 3 b octets) (is_drop 3 b)))
    (both P (ltb (length b) (3 + indicator)) (Unread (Short Mtp2)) (mtp3 (slice_range b 3 (3 + indicator))) short
    (widen (drop 3 b) b (mtp3 (take (3 + indicator - 3) (drop 3 b)) ∷ []) (is_drop 3 b)
    (part_in (take (3 + indicator - 3) (drop 3 b)) (drop 3 b)
    (AreOctets-take (3 + indicator - 3) (drop 3 b) (AreOctets-drop 3 b octets)) (is_take (3 + indicator - 3) (drop 3 b)))))))

is_in : (b : List ℕ) (c : Carried) → Within b c → IsIn b c
is_in b (Chunk i d) h = h
is_in b (BadChunk i fault) h = tt
is_in b (Signal t) h = h
is_in b (Bare octets) h = absurd h
is_in b (Unread fault) h = tt
is_in b Other h = tt

all_in : (b : List ℕ) (cs : List Carried) → All (Within b) cs → All (IsIn b) cs
all_in b cs = each (Within b) (IsIn b) (is_in b) cs

sccp_in : (original : ℕ) (b : List ℕ) → All (IsIn b) (sccp original b ∷ [])
unfolding sccp
sccp_in original b =
    one (IsIn b) (sccp original b) (both (IsIn b) (ltb (length b) original) (Unread (Short Sccp)) (Bare b) tt refl)

whole_mtp3_in : (original : ℕ) (b : List ℕ) → AreOctets b → All (Within b) (whole_mtp3 original b ∷ [])
unfolding whole_mtp3
whole_mtp3_in original b octets =
    alone b (whole_mtp3 original b) (both (Within b) (ltb (length b) original) (Unread (Short Mtp3)) (mtp3 b) tt (mtp3_in b octets))

-- ---- any link

found_is_in : (link original : ℕ) (b : List ℕ) → AreOctets b → All (IsIn b) (found_in link original b)
unfolding found_in
found_is_in link original b octets =
    let P = All (IsIn b) in
    both P (eqb link 1) (ethernet b) _ (all_in b _ (ethernet_in b octets))
    (both P (eqb link 113) (cooked b) _ (all_in b _ (cooked_in b octets))
    (both P (eqb link 276) (cooked_2 b) _ (all_in b _ (cooked_2_in b octets))
    (both P (eqb link 101 || (eqb link 12 || eqb link 14)) (raw b) _ (all_in b _ (raw_in b octets))
    (both P (eqb link 0) (loopback b) _ (all_in b _ (loopback_in b octets))
    (both P (eqb link 108) (loopback_2 b) _ (all_in b _ (loopback_2_in b octets))
    (both P (eqb link 228) (ip b) _ (all_in b _ (ip_in b octets))
    (both P (eqb link 229) (ipv6 b) _ (all_in b _ (ipv6_in b octets))
    (both P (eqb link 248) (sctp (max (length b) original) b) _ (all_in b _ (sctp_in (max (length b) original) b octets))
    (both P (eqb link 142) (sccp original b ∷ []) _ (sccp_in original b)
    (both P (eqb link 141) (whole_mtp3 original b ∷ []) _ (all_in b (whole_mtp3 original b ∷ []) (whole_mtp3_in original b octets))
    (both P (eqb link 140) (mtp2 original b ∷ []) (Unread (Link link) ∷ []) (all_in b (mtp2 original b ∷ []) (mtp2_in original b octets))
    (one (IsIn b) (Unread (Link link)) tt))))))))))))

pub answered : {E : Type 0} (link original : ℕ) (b : List ℕ) (r : Result (List Found) E) → AreOctets b
    → IfOk r (λ l. map found_as l ≡ found_in link original b) → IfOk r (λ l. All (IsIn b) (map found_as l))
answered link original b (Ok l) octets e = subst (λ (cs : List Carried). All (IsIn b) cs) (sym e) (found_is_in link original b octets)
answered link original b (Err e) octets h = tt

pub one_answered : (b : List ℕ) (f : Found) → AreOctets b → found_as f ≡ m2pa b → IsIn b (found_as f)
one_answered b f octets e =
    subst (λ (c : Carried). IsIn b c) (sym e) (All-head (IsIn b) (m2pa b) [] (all_in b (m2pa b ∷ []) (m2pa_in b octets)))
