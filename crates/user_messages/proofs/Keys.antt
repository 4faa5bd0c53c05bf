-- Keys are found to be the same exactly if they are equal, and the chunk that follows another has one key only.
use Rattle.std.specs.Prelude.{◌≡◌, ℕ, ◌+◌, ◌<◌, ◌%◌, ◌^◌, ◌==◌, true, false, ◌&&◌, not, refl}
use Rattle.std.proofs.Common.{sym, ap, ◌∙◌, arith}
use Rattle.std.proofs.lemmas.Bool.{and_parts, and_from, not-true, eqb-true, eq-eqb}
use Rattle.packet_layers.specs.Values.{DataChunk}
use Rattle.user_messages.specs.declared.key.Key.{Key}
use Rattle.user_messages.specs.Chunks.{key_of, same_key, same_flow, same_stream, goes_on}
use Rattle.sccp_base.proofs.Among.{same_bool}

pub key_is : (a b : Key) → same_key a b ≡ true → a ≡ b
key_is a b e =
    let p = and_parts (a.source == b.source) (a.destination == b.destination && (a.tag == b.tag && a.tsn == b.tsn)) e in
    let q = and_parts (a.destination == b.destination) (a.tag == b.tag && a.tsn == b.tsn) p.1 in
    let r = and_parts (a.tag == b.tag) (a.tsn == b.tsn) q.1 in
    let s : a.source ≡ b.source = eqb-true a.source b.source p.0 in
    let d : a.destination ≡ b.destination = eqb-true a.destination b.destination q.0 in
    let t : a.tag ≡ b.tag = eqb-true a.tag b.tag r.0 in
    let n : a.tsn ≡ b.tsn = eqb-true a.tsn b.tsn r.1 in
    λ i. record { source = s i; destination = d i; tag = t i; tsn = n i }

pub key_itself : (a : Key) → same_key a a ≡ true
key_itself a =
    and_from (a.source == a.source) (a.destination == a.destination && (a.tag == a.tag && a.tsn == a.tsn)) (eq-eqb a.source a.source refl)
    (and_from (a.destination == a.destination) (a.tag == a.tag && a.tsn == a.tsn) (eq-eqb a.destination a.destination refl)
    (and_from (a.tag == a.tag) (a.tsn == a.tsn) (eq-eqb a.tag a.tag refl) (eq-eqb a.tsn a.tsn refl)))

pub same_turned : (a b : Key) → same_key a b ≡ same_key b a
same_turned a b =
    same_bool (same_key a b) (same_key b a)
    (λ e. ap (λ k. same_key b k) (key_is a b e) ∙ key_itself b)
    (λ e. ap (λ k. same_key a k) (key_is b a e) ∙ key_itself a)

-- what a chunk that goes on with another has
pub record GoesOn (a b : DataChunk) : Type 0 where
  pub number : b.tsn ≡ (a.tsn + 1) % 2 ^ 32
  pub not_last : a.ends ≡ false
  pub not_first : b.begins ≡ false
  pub source : a.flow.source ≡ b.flow.source
  pub destination : a.flow.destination ≡ b.flow.destination
  pub tag : a.flow.tag ≡ b.flow.tag

pub goes_on_has : (a b : DataChunk) → goes_on a b ≡ true → GoesOn a b
unfolding goes_on
goes_on_has a b e =
    let p = and_parts (b.tsn == (a.tsn + 1) % 2 ^ 32) ((not a.ends && not b.begins) && (same_flow a.flow b.flow && same_stream a b)) e in
    let q = and_parts (not a.ends && not b.begins) (same_flow a.flow b.flow && same_stream a b) p.1 in
    let flags = and_parts (not a.ends) (not b.begins) q.0 in
    let flow = and_parts (same_flow a.flow b.flow) (same_stream a b) q.1 in
    let s = and_parts (a.flow.source == b.flow.source) (a.flow.destination == b.flow.destination && a.flow.tag == b.flow.tag) flow.0 in
    let d = and_parts (a.flow.destination == b.flow.destination) (a.flow.tag == b.flow.tag) s.1 in
    record {
      number = eqb-true b.tsn ((a.tsn + 1) % 2 ^ 32) p.0;
      not_last = not-true a.ends flags.0;
      not_first = not-true b.begins flags.1;
      source = eqb-true a.flow.source b.flow.source s.0;
      destination = eqb-true a.flow.destination b.flow.destination d.0;
      tag = eqb-true a.flow.tag b.flow.tag d.1;
    }

-- two chunks that go on with one have one key
pub next_key : (a x y : DataChunk) → goes_on a x ≡ true → goes_on a y ≡ true → key_of x ≡ key_of y
next_key a x y p q =
    let g = goes_on_has a x p in
    let h = goes_on_has a y q in
    let s : x.flow.source ≡ y.flow.source = sym g.source ∙ h.source in
    let d : x.flow.destination ≡ y.flow.destination = sym g.destination ∙ h.destination in
    let t : x.flow.tag ≡ y.flow.tag = sym g.tag ∙ h.tag in
    let n : x.tsn ≡ y.tsn = g.number ∙ sym h.number in
    λ i. record { source = s i; destination = d i; tag = t i; tsn = n i }

same_before : (x y : ℕ) → x < 2 ^ 32 → y < 2 ^ 32 → (x + 1) % 2 ^ 32 ≡ (y + 1) % 2 ^ 32 → x ≡ y
same_before x y p q e = omega arith

-- two chunks with which one goes on have one key
pub key_before : (x y b : DataChunk) → x.tsn < 2 ^ 32 → y.tsn < 2 ^ 32 → goes_on x b ≡ true → goes_on y b ≡ true → key_of x ≡ key_of y
key_before x y b below under p q =
    let g = goes_on_has x b p in
    let h = goes_on_has y b q in
    let s : x.flow.source ≡ y.flow.source = g.source ∙ sym h.source in
    let d : x.flow.destination ≡ y.flow.destination = g.destination ∙ sym h.destination in
    let t : x.flow.tag ≡ y.flow.tag = g.tag ∙ sym h.tag in
    let n : x.tsn ≡ y.tsn = same_before x.tsn y.tsn below under (sym g.number ∙ h.number) in
    λ i. record { source = s i; destination = d i; tag = t i; tsn = n i }
