-- What is found in a packet is in its octets.
use Rattle.std.proofs.Common.{◌≡◌, ℕ, zero, suc, ◌+◌, ◌-◌, ◌*◌, ◌%◌, ◌^◌, ◌≤◌, Bool, true, false, cond, eqb, ltb, not, List, [], ◌∷◌, ◌++◌}
use Rattle.std.proofs.Common.{length}
use Rattle.std.proofs.Common.{take, drop, get_or, Result, Ok, Err, refl, sym, ◌∙◌, ap, arith, append_assoc, length-append, length-drop}
use Rattle.std.specs.Int.{w32, to_le_bytes}
use Rattle.std.specs.List.{All}
use Rattle.std.proofs.lemmas.Bool.{ltb-false, eqb-true, not-false}
use Rattle.std.proofs.lemmas.List.{take-append-drop, drop-drop, length-take-le, get_or-take, append-nil}
use Rattle.std.proofs.lemmas.List.Elements.{All-nil, All-cons}
use Rattle.sccp_base.proofs.AllOk.{guard_ok}
use Rattle.packet_layers.specs.declared.flow.Flow.{Flow}
use Rattle.packet_layers.specs.declared.fault.Fault.TheVariants.{Short}
use Rattle.packet_layers.specs.declared.layer.Layer.TheVariants.{Sctp}
use Rattle.packet_layers.specs.declared.chunk_fault.ChunkFault.{ChunkFault}
use Rattle.packet_layers.specs.declared.chunk_fault.ChunkFault.TheVariants as chunks
use Rattle.packet_layers.specs.Numbers.{number_2, up_to_four, bit}
use Rattle.packet_layers.specs.Values.{DataChunk, Transferred, Carried, Chunk, BadChunk, Signal, Bare, Unread, Other}
use Rattle.packet_layers.specs.Layers.{chunk_of, chunk_size, chunk_then, chunks_from, data_of, flow_of, sctp}
use Rattle.packet_layers.specs.Places.{header_octets, chunk_octets, HasChunk, HasTransfer}
use Rattle.packet_layers.proofs.Octets.{AreOctets, AreOctets-drop, AreOctets-take, next_two, spelled_2, spelled_4}

-- ---- choices

pub either : {X : Type 0} (P : X → Type 0) (t : Bool) (x y : X) → (t ≡ true → P x) → (t ≡ false → P y) → P (cond t x y)
either P true x y f g = f refl
either P false x y f g = g refl

pub both : {X : Type 0} (P : X → Type 0) (t : Bool) (x y : X) → P x → P y → P (cond t x y)
both P true x y p q = p
both P false x y p q = q

pub one : (P : Carried → Type 0) (c : Carried) → P c → All P (c ∷ [])
one P c p = All-cons P c [] p (All-nil P)

pub each : (P Q : Carried → Type 0) → ((c : Carried) → P c → Q c) → (cs : List Carried) → All P cs → All Q cs
each P Q f cs all k d lt = f _ (all k d lt)

regroup_3 : (a b c d : List ℕ) → a ++ (b ++ c ++ d) ≡ (a ++ b) ++ c ++ d
regroup_3 a b c d = simp append_assoc

regroup_4 : (a b c d e f : List ℕ) → a ++ (b ++ c ++ d ++ e) ++ f ≡ (a ++ b) ++ c ++ d ++ (e ++ f)
regroup_4 a b c d e f = simp append_assoc

regroup_5 : (a b c d e f g : List ℕ) → a ++ (b ++ c ++ d ++ e ++ f) ++ g ≡ (a ++ b) ++ c ++ d ++ e ++ (f ++ g)
regroup_5 a b c d e f g = simp append_assoc

-- ---- one chunk

-- the chunk, in the octets after the common header
record HasTail (flow : Flow) (b : List ℕ) (d : DataChunk) : Type 0 where
  between : List ℕ
  flags : ℕ
  after : List ℕ
  parts : b ≡ between ++ chunk_octets flags d ++ after
  same : d.flow ≡ flow
  aligned : length between % 4 ≡ 0
  unordered : d.unordered ≡ bit flags 2
  begins : d.begins ≡ bit flags 1
  ends : d.ends ≡ bit flags 0
  some : 1 ≤ length d.payload

abbrev After : Flow → List ℕ → Carried → Type 0
After flow b (Chunk i d) = HasTail flow b d
After flow b (BadChunk i fault) = Unit {0}
After flow b (Signal t) = ⊥
After flow b (Bare octets) = ⊥
After flow b (Unread fault) = Unit {0}
After flow b Other = Unit {0}

-- the octets of a chunk whose length says how many they are
spelled_chunk : (flow : Flow) (b : List ℕ) → AreOctets b → 17 ≤ length b → get_or b 0 0 ≡ 0 → number_2 b 2 ≡ length b
    → chunk_octets (get_or b 1 0) (data_of flow b) ≡ b
spelled_chunk flow b octets some kind size =
    let sum : 16 + length (drop 16 b) ≡ number_2 b 2 = omega (arith, length-drop 16 b) in
    let front : drop 0 b ≡ get_or b 0 0 ∷ get_or b 1 0 ∷ drop 2 b = next_two b 0 (omega arith) in
    let p2 = spelled_2 b 2 octets (omega arith) in
    let p4 = spelled_4 b 4 octets (omega arith) in
    let p8 = spelled_2 b 8 octets (omega arith) in
    let p10 = spelled_2 b 10 octets (omega arith) in
    let p12 = spelled_4 b 12 octets (omega arith) in
    rw (sum, p12, p10, p8, p4, p2) (ap (λ (k : ℕ). k ∷ get_or b 1 0 ∷ drop 2 b) (sym kind) ∙ sym front)

same_number : (size : ℕ) (b : List ℕ) → 4 ≤ size → number_2 (take size b) 2 ≡ number_2 b 2
same_number size b least =
    let high : get_or (take size b) 2 0 ≡ get_or b 2 0 = get_or-take size b 2 0 (omega arith) in
    let low : get_or (take size b) 3 0 ≡ get_or b 3 0 = get_or-take size b 3 0 (omega arith) in
    rw (high, low) refl

-- a DATA chunk at the front
first_tail : (size : ℕ) (flow : Flow) (b : List ℕ) → AreOctets b → size ≤ length b → size ≡ number_2 b 2 → 4 ≤ size
    → 17 ≤ length (take size b) → get_or (take size b) 0 0 ≡ 0 → HasTail flow b (data_of flow (take size b))
first_tail size flow b octets inside size_is least enough kind =
    let part : List ℕ = take size b in
    let long : length part ≡ size = length-take-le size b inside in
    let number : number_2 part 2 ≡ length part = same_number size b least ∙ sym size_is ∙ sym long in
    let spelled : chunk_octets (get_or part 1 0) (data_of flow part) ≡ part =
    spelled_chunk flow part (AreOctets-take size b octets) enough kind number in
    record {
      between = [];
      flags = get_or part 1 0;
      after = drop size b;
      parts = sym (ap (λ (l : List ℕ). l ++ drop size b) spelled ∙ take-append-drop size b);
      same = refl;
      aligned = refl;
      unordered = refl;
      begins = refl;
      ends = refl;
      some = omega (arith, length-drop 16 part);
    }

chunk_in : (i size : ℕ) (flow : Flow) (b : List ℕ) → AreOctets b → size ≤ length b → size ≡ number_2 b 2 → 4 ≤ size
    → After flow b (chunk_of i flow (take size b))
unfolding chunk_of
chunk_in i size flow b octets inside size_is least =
    let part : List ℕ = take size b in
    both (After flow b) (eqb (get_or part 0 0) 64) (BadChunk i chunks.Interleaved) _ tt
    (either (After flow b) (not (eqb (get_or part 0 0) 0)) Other _ (λ t. tt)
    (λ is. either (After flow b) (ltb (length part) 17) (BadChunk i chunks.Bad) (Chunk i (data_of flow part)) (λ t. tt)
    (λ long. first_tail size flow b octets inside size_is least (ltb-false (length part) 17 long)
    (eqb-true (get_or part 0 0) 0 (not-false (eqb (get_or part 0 0) 0) is)))))

-- ---- the chunks after one another

-- the same chunk, after more octets
later_tail : (flow : Flow) (used : ℕ) (b : List ℕ) (d : DataChunk) → used % 4 ≡ 0 → HasTail flow (drop used b) d → HasTail flow b d
later_tail flow used b d four h =
    let whole : b ≡ take used b ++ drop used b = sym (take-append-drop used b) in
    let chunk : List ℕ = chunk_octets h.flags d in
    let size : length (drop used b) ≡ length (h.between ++ chunk ++ h.after) = ap length h.parts in
    let some : 2 ≤ length chunk = omega arith in
    let inside : used ≤ length b =
    omega (arith, length-drop used b, length-append (h.between ++ chunk) h.after, length-append h.between chunk) in
    let front : length (take used b) ≡ used = length-take-le used b inside in
    record {
      between = take used b ++ h.between;
      flags = h.flags;
      after = h.after;
      parts = whole ∙ ap (λ (l : List ℕ). take used b ++ l) h.parts ∙ regroup_3 (take used b) h.between (chunk_octets h.flags d) h.after;
      same = h.same;
      aligned = omega (arith, length-append (take used b) h.between, h.aligned);
      unordered = h.unordered;
      begins = h.begins;
      ends = h.ends;
      some = h.some;
    }

later : (flow : Flow) (used : ℕ) (b : List ℕ) → used % 4 ≡ 0 → (c : Carried) → After flow (drop used b) c → After flow b c
later flow used b four (Chunk i d) h = later_tail flow used b d four h
later flow used b four (BadChunk i fault) h = tt
later flow used b four (Signal t) h = h
later flow used b four (Bare octets) h = h
later flow used b four (Unread fault) h = tt
later flow used b four Other h = tt

sized : (size : ℕ) (b : List ℕ) → Ok size ≡ chunk_size b → (4 ≤ size) × (size ≤ length b) × (size ≡ number_2 b 2)
unfolding chunk_size
sized size b e =
    let g0 = guard_ok (ltb (length b) 4) chunks.Short _ size (sym e) in
    let g1 = guard_ok (ltb (number_2 b 2) 4) chunks.Bad _ size g0.1 in
    let g2 = guard_ok (ltb (length b) (number_2 b 2)) chunks.Short _ size g1.1 in
    let same : number_2 b 2 ≡ size = let last = g2.1 in cc in
    (omega (arith, ltb-false (number_2 b 2) 4 g1.0), omega (arith, ltb-false (length b) (number_2 b 2) g2.0), sym same)

then_in : (next : ℕ → List Carried) (i : ℕ) (flow : Flow) (b : List ℕ) (size : Result ℕ ChunkFault) → AreOctets b → size ≡ chunk_size b
    → ((used : ℕ) → used % 4 ≡ 0 → All (After flow b) (next used)) → All (After flow b) (chunk_then next i flow b size)
then_in next i flow b (Err fault) octets e rest = one (After flow b) (BadChunk i fault) tt
then_in next i flow b (Ok size) octets e rest =
    let s = sized size b e in
    All-cons (After flow b) (chunk_of i flow (take size b)) (next (up_to_four size)) (chunk_in i size flow b octets s.1 s.2 s.0)
    (rest (up_to_four size) (omega arith))

chunks_in : (most i : ℕ) (flow : Flow) (whole : ℕ) (b : List ℕ) → AreOctets b → All (After flow b) (chunks_from most i flow whole b)
unfolding chunks_from
chunks_in zero i flow whole b octets = All-nil (After flow b)
chunks_in (suc most) i flow whole b octets =
    both (All (After flow b)) (eqb whole 0) [] _ (All-nil (After flow b))
    (then_in (λ used. chunks_from most (i + 1) flow (whole - used) (drop used b)) i flow b (chunk_size b) octets refl
    (λ used four. each (After flow (drop used b)) (After flow b) (later flow used b four)
    (chunks_from most (i + 1) flow (whole - used) (drop used b))
    (chunks_in most (i + 1) flow (whole - used) (drop used b) (AreOctets-drop used b octets))))

-- ---- a packet

-- the chunk or message is in the octets, wherever
abbrev pub Within : List ℕ → Carried → Type 0
Within b (Chunk i d) = HasChunk b d
Within b (BadChunk i fault) = Unit {0}
Within b (Signal t) = HasTransfer b t
Within b (Bare octets) = ⊥
Within b (Unread fault) = Unit {0}
Within b Other = Unit {0}

-- octets among others
pub record IsPart (part : List ℕ) (b : List ℕ) : Type 0 where
  pub front : List ℕ
  pub back : List ℕ
  pub parts : b ≡ front ++ part ++ back

pub is_take : (n : ℕ) (b : List ℕ) → IsPart (take n b) b
is_take n b = record { front = []; back = drop n b; parts = sym (take-append-drop n b) }

pub is_drop : (n : ℕ) (b : List ℕ) → IsPart (drop n b) b
is_drop n b = record {
  front = take n b;
  back = [];
  parts = sym (append-nil (take n b ++ drop n b) ∙ take-append-drop n b);
}

wider_chunk : (part b : List ℕ) (d : DataChunk) → IsPart part b → HasChunk part d → HasChunk b d
wider_chunk part b d p h = record {
  before = p.front ++ h.before;
  checksum = h.checksum;
  between = h.between;
  flags = h.flags;
  after = h.after ++ p.back;
  parts = p.parts ∙ ap (λ (l : List ℕ). p.front ++ l ++ p.back) h.parts
      ∙ regroup_5 p.front h.before (header_octets d.flow h.checksum) h.between (chunk_octets h.flags d) h.after p.back;
  four = h.four;
  aligned = h.aligned;
  unordered = h.unordered;
  begins = h.begins;
  ends = h.ends;
  some = h.some;
}

wider_transfer : (part b : List ℕ) (t : Transferred) → IsPart part b → HasTransfer part t → HasTransfer b t
wider_transfer part b t p h =
    let octets : List ℕ = h.information ∷ to_le_bytes w32 (t.destination + 2 ^ 14 * t.origin + 2 ^ 28 * h.selection) in
    record {
      before = p.front ++ h.before;
      information = h.information;
      selection = h.selection;
      after = h.after ++ p.back;
      parts = p.parts ∙ ap (λ (l : List ℕ). p.front ++ l ++ p.back) h.parts
          ∙ regroup_4 p.front h.before octets t.payload h.after p.back;
      service = h.service;
      origin = h.origin;
      destination = h.destination;
    }

wider : (part b : List ℕ) → IsPart part b → (c : Carried) → Within part c → Within b c
wider part b p (Chunk i d) h = wider_chunk part b d p h
wider part b p (BadChunk i fault) h = tt
wider part b p (Signal t) h = wider_transfer part b t p h
wider part b p (Bare octets) h = h
wider part b p (Unread fault) h = tt
wider part b p Other h = tt

pub widen : (part b : List ℕ) (cs : List Carried) → IsPart part b → All (Within part) cs → All (Within b) cs
widen part b cs p = each (Within part) (Within b) (wider part b p) cs

-- ---- SCTP

spelled_header : (b : List ℕ) → AreOctets b → 12 ≤ length b → header_octets (flow_of b) (take 4 (drop 8 b)) ++ drop 12 b ≡ b
spelled_header b octets some =
    let last : take 4 (drop 8 b) ++ drop 12 b ≡ drop 8 b =
    ap (λ (l : List ℕ). take 4 (drop 8 b) ++ l) (sym (drop-drop 4 8 b)) ∙ take-append-drop 4 (drop 8 b) in
    let p0 = spelled_2 b 0 octets (omega arith) in
    let p2 = spelled_2 b 2 octets (omega arith) in
    let p4 = spelled_4 b 4 octets (omega arith) in
    rw (last, p4, p2, p0) refl

has_chunk : (b : List ℕ) (d : DataChunk) → AreOctets b → 12 ≤ length b → HasTail (flow_of b) (drop 12 b) d → HasChunk b d
has_chunk b d octets some h =
    let checksum : List ℕ = take 4 (drop 8 b) in
    let front : header_octets d.flow checksum ++ drop 12 b ≡ b =
    ap (λ (flow : Flow). header_octets flow checksum ++ drop 12 b) h.same ∙ spelled_header b octets some in
    record {
      before = [];
      checksum = checksum;
      between = h.between;
      flags = h.flags;
      after = h.after;
      parts = sym front ∙ ap (λ (l : List ℕ). header_octets d.flow checksum ++ l) h.parts
          ∙ regroup_3 (header_octets d.flow checksum) h.between (chunk_octets h.flags d) h.after;
      four = length-take-le 4 (drop 8 b) (omega (arith, length-drop 8 b));
      aligned = h.aligned;
      unordered = h.unordered;
      begins = h.begins;
      ends = h.ends;
      some = h.some;
    }

from_after : (b : List ℕ) → AreOctets b → 12 ≤ length b → (c : Carried) → After (flow_of b) (drop 12 b) c → Within b c
from_after b octets some (Chunk i d) h = has_chunk b d octets some h
from_after b octets some (BadChunk i fault) h = tt
from_after b octets some (Signal t) h = absurd h
from_after b octets some (Bare octets') h = h
from_after b octets some (Unread fault) h = tt
from_after b octets some Other h = tt

pub sctp_in : (whole : ℕ) (b : List ℕ) → AreOctets b → All (Within b) (sctp whole b)
unfolding sctp
sctp_in whole b octets =
    either (All (Within b)) (ltb (length b) 12) (Unread (Short Sctp) ∷ []) _ (λ t. one (Within b) (Unread (Short Sctp)) tt)
    (λ f. let cs = chunks_from (length b) 1 (flow_of b) (whole - 12) (drop 12 b) in
    each (After (flow_of b) (drop 12 b)) (Within b) (from_after b octets (ltb-false (length b) 12 f)) cs
    (chunks_in (length b) 1 (flow_of b) (whole - 12) (drop 12 b) (AreOctets-drop 12 b octets)))
