-- Octets that a block of a pcapng file is put together of.
use Rattle.std.proofs.Common.{◌≡◌, ◌⊎◌, ℕ, ◌+◌, ◌-◌, ◌%◌, ◌^◌, ◌<◌, ◌≤◌, true, false, List, ◌++◌, length}
use Rattle.std.proofs.Common.{take, drop, refl, sym, ◌∙◌, ap, subst, inl, inr, ⊎_elim, append_assoc, arith}
use Rattle.std.specs.Prelude.{◌==◌}
use Rattle.std.proofs.lemmas.Bool.{cases_lt, cases_Bool, eqb-true, eqb-false}
use Rattle.std.proofs.lemmas.List.{length-drop, length-take-le, drop-drop, take-append-drop}
use Rattle.capture_file.specs.Numbers.{number_2, number_4}
use Rattle.capture_file.specs.Units.{least}
use Rattle.capture_file.specs.Spelled.{octets_2, octets_4, AreOctets}
use Rattle.capture_file.specs.Sections.{Interface, Content, Padded, Lacking, Framed, Description, Enhanced, Old, Simple, Other}
use Rattle.capture_file.specs.Sections.{block_octets, captured_length, content_octets, block_kind, block_body, IsContent}
use Rattle.capture_file.specs.Sections.{IsBlock, simple_length}
use Rattle.capture_file.specs.declared.order.Order.{Order}
use Rattle.capture_file.proofs.WordLemmas.{spelled_2, spelled_4, number_2-small, number_4-small, AreOctets-drop, AreOctets-take}

-- ---- a whole block

-- the body of the block of that length at the front of octets
abbrev pub body_at : ℕ → List ℕ → List ℕ
body_at size b = take (size - 12) (drop 8 b)

pub length-body : (size : ℕ) (b : List ℕ) → 12 ≤ size → size ≤ length b → length (body_at size b) ≡ size - 12
length-body size b some le = length-take-le (size - 12) (drop 8 b) (omega (arith, some, le, length-drop 8 b))

pub AreOctets-body : (size : ℕ) (b : List ℕ) → AreOctets b → AreOctets (body_at size b)
AreOctets-body size b each = AreOctets-take (size - 12) (drop 8 b) (AreOctets-drop 8 b each)

pub block-spelled : (o : Order) (size : ℕ) (b : List ℕ) → AreOctets b → 12 ≤ size → size ≤ length b → number_4 o b 4 ≡ size
    → number_4 o b (size - 4) ≡ size → block_octets o (number_4 o b 0) (body_at size b) ++ drop size b ≡ b
block-spelled o size b each some le first last =
    let kind : List ℕ = octets_4 o (number_4 o b 0) in
    let body : List ℕ = body_at size b in
    let again : 12 + length body ≡ size = omega (arith, some, length-body size b some le) in
    let after : 8 + (size - 12) ≡ size - 4 = omega (arith, some) in
    let end : size - 4 + 4 ≡ size = omega (arith, some) in
    let back : octets_4 o size ++ drop size b ≡ drop (size - 4) b =
    ap (λ (n : ℕ). octets_4 o n ++ drop size b) (sym last)
    ∙ ap (λ (n : ℕ). octets_4 o (number_4 o b (size - 4)) ++ drop n b) (sym end)
    ∙ spelled_4 o b (size - 4) each (omega (arith, some, le)) in
    let rest : body ++ drop (size - 4) b ≡ drop 8 b =
    ap (λ (l : List ℕ). body ++ l) (ap (λ (n : ℕ). drop n b) (sym after) ∙ sym (drop-drop (size - 12) 8 b))
    ∙ take-append-drop (size - 12) (drop 8 b) in
    append_assoc (kind ++ octets_4 o (12 + length body) ++ body) (octets_4 o (12 + length body)) (drop size b)
    ∙ append_assoc (kind ++ octets_4 o (12 + length body)) body (octets_4 o (12 + length body) ++ drop size b)
    ∙ append_assoc kind (octets_4 o (12 + length body)) (body ++ (octets_4 o (12 + length body) ++ drop size b))
    ∙ ap (λ (n : ℕ). kind ++ (octets_4 o n ++ (body ++ (octets_4 o n ++ drop size b)))) again
    ∙ ap (λ (l : List ℕ). kind ++ (octets_4 o size ++ (body ++ l))) back
    ∙ ap (λ (l : List ℕ). kind ++ (octets_4 o size ++ l)) rest
    ∙ ap (λ (n : ℕ). kind ++ (octets_4 o n ++ drop 8 b)) (sym first)
    ∙ ap (λ (l : List ℕ). kind ++ l) (spelled_4 o b 4 each (omega (arith, some, le)))
    ∙ spelled_4 o b 0 each (omega (arith, some, le))

-- ---- the content of a packet

-- what follows the lengths of a packet
record IsContentOf (captured : ℕ) (octets : List ℕ) : Type 0 where
  content : Content
  is_content : IsContent content
  captured_is : captured_length content ≡ captured
  octets_are : content_octets content ≡ octets

content-of : (captured : ℕ) (octets : List ℕ) → length octets % 4 ≡ 0 → IsContentOf captured octets
content-of captured octets four =
    ⊎_elim
    (λ (few : length octets < captured).
    record { content = Lacking captured octets; is_content = (few, four); captured_is = refl; octets_are = refl })
    (λ (le : captured ≤ length octets). padded le)
    (cases_lt (length octets) captured)
  where
    padding : ℕ
    padding = (4 - captured % 4) % 4

    padded : captured ≤ length octets → IsContentOf captured octets
    padded le =
        let first : List ℕ = take captured octets in
        let after : List ℕ = drop captured octets in
        let pad : List ℕ = take padding after in
        let options : List ℕ = drop padding after in
        let long : captured + padding ≤ length octets = omega (arith, le, four) in
        let packet : length first ≡ captured = length-take-le captured octets le in
        let padded_by : length pad ≡ padding = length-take-le padding after (omega (arith, long, length-drop captured octets)) in
        let left : length options ≡ length octets - captured - padding =
        omega (arith, length-drop padding after, length-drop captured octets) in
        record {
          content = Padded first pad options;
          is_content = (omega (arith, packet, padded_by), omega (arith, padded_by), omega (arith, left, long, four));
          captured_is = packet;
          octets_are = append_assoc first pad options ∙ ap (λ (l : List ℕ). first ++ l) (take-append-drop padding after)
              ∙ take-append-drop captured octets;
        }

-- ---- the body of each block

-- a block of that type and body
pub record IsFramed (o : Order) (seen : List Interface) (kind : ℕ) (body : List ℕ) : Type 0 where
  pub framed : Framed
  pub is_block : IsBlock seen framed
  pub kind_is : block_kind framed ≡ kind
  pub body_is : block_body o framed ≡ body

four-joined : (a b c d : List ℕ) → a ++ b ++ c ++ d ≡ a ++ (b ++ (c ++ d))
four-joined a b c d = append_assoc (a ++ b) c d ∙ append_assoc a b (c ++ d)

pub five-joined : (a b c d e : List ℕ) → a ++ b ++ c ++ d ++ e ≡ a ++ (b ++ (c ++ (d ++ e)))
five-joined a b c d e = append_assoc (a ++ b ++ c) d e ∙ four-joined a b c (d ++ e)

description-of : (o : Order) (seen : List Interface) (body : List ℕ) → AreOctets body → length body % 4 ≡ 0 → 8 ≤ length body
    → length seen < 4096 → IsFramed o seen 1 body
description-of o seen body each four le few =
    let link : List ℕ = octets_2 o (number_2 o body 0) in
    let reserved : List ℕ = take 2 (drop 2 body) in
    let snap : List ℕ = octets_4 o (number_4 o body 4) in
    record {
      framed = Description (record { link = number_2 o body 0; reserved = reserved; snap = number_4 o body 4; options = drop 8 body });
      is_block = (
        number_2-small o body 0 each,
        length-take-le 2 (drop 2 body) (omega (arith, le, length-drop 2 body)),
        number_4-small o body 4 each,
        omega (arith, four, le, length-drop 8 body),
        few,
      );
      kind_is = refl;
      body_is = four-joined link reserved snap (drop 8 body)
          ∙ ap (λ (l : List ℕ). link ++ (reserved ++ l)) (spelled_4 o body 4 each le ∙ sym (drop-drop 2 2 body))
          ∙ ap (λ (l : List ℕ). link ++ l) (take-append-drop 2 (drop 2 body))
          ∙ spelled_2 o body 0 each (omega (arith, le));
    }

-- the lengths of a packet and what follows them, after twelve octets
packet-joined : (o : Order) (body : List ℕ) (c : IsContentOf (number_4 o body 12) (drop 20 body)) → AreOctets body → 20 ≤ length body
    → octets_4 o (captured_length c.content) ++ (octets_4 o (number_4 o body 16) ++ content_octets c.content) ≡ drop 12 body
packet-joined o body c each le =
    ap (λ (n : ℕ). octets_4 o n ++ (octets_4 o (number_4 o body 16) ++ content_octets c.content)) c.captured_is
    ∙ ap (λ (l : List ℕ). octets_4 o (number_4 o body 12) ++ (octets_4 o (number_4 o body 16) ++ l)) c.octets_are
    ∙ ap (λ (l : List ℕ). octets_4 o (number_4 o body 12) ++ l) (spelled_4 o body 16 each le)
    ∙ spelled_4 o body 12 each (omega (arith, le))

enhanced-of : (o : Order) (seen : List Interface) (body : List ℕ) → AreOctets body → length body % 4 ≡ 0 → 20 ≤ length body
    → IsFramed o seen 6 body
enhanced-of o seen body each four le =
    let interface : List ℕ = octets_4 o (number_4 o body 0) in
    let unread : List ℕ = take 8 (drop 4 body) in
    let c = content-of (number_4 o body 12) (drop 20 body) (omega (arith, four, le, length-drop 20 body)) in
    record {
      framed = Enhanced (number_4 o body 0) unread (number_4 o body 16) c.content;
      is_block = (
        number_4-small o body 0 each,
        length-take-le 8 (drop 4 body) (omega (arith, le, length-drop 4 body)),
        subst (λ (n : ℕ). n < 2 ^ 32) (sym c.captured_is) (number_4-small o body 12 each),
        number_4-small o body 16 each,
        c.is_content,
      );
      kind_is = refl;
      body_is = five-joined interface unread (octets_4 o (captured_length c.content)) (octets_4 o (number_4 o body 16))
          (content_octets c.content)
          ∙ ap (λ (l : List ℕ). interface ++ (unread ++ l)) (packet-joined o body c each le ∙ sym (drop-drop 8 4 body))
          ∙ ap (λ (l : List ℕ). interface ++ l) (take-append-drop 8 (drop 4 body))
          ∙ spelled_4 o body 0 each (omega (arith, le));
    }

old-of : (o : Order) (seen : List Interface) (body : List ℕ) → AreOctets body → length body % 4 ≡ 0 → 20 ≤ length body
    → IsFramed o seen 2 body
old-of o seen body each four le =
    let interface : List ℕ = octets_2 o (number_2 o body 0) in
    let unread : List ℕ = take 10 (drop 2 body) in
    let c = content-of (number_4 o body 12) (drop 20 body) (omega (arith, four, le, length-drop 20 body)) in
    record {
      framed = Old (number_2 o body 0) unread (number_4 o body 16) c.content;
      is_block = (
        number_2-small o body 0 each,
        length-take-le 10 (drop 2 body) (omega (arith, le, length-drop 2 body)),
        subst (λ (n : ℕ). n < 2 ^ 32) (sym c.captured_is) (number_4-small o body 12 each),
        number_4-small o body 16 each,
        c.is_content,
      );
      kind_is = refl;
      body_is = five-joined interface unread (octets_4 o (captured_length c.content)) (octets_4 o (number_4 o body 16))
          (content_octets c.content)
          ∙ ap (λ (l : List ℕ). interface ++ (unread ++ l)) (packet-joined o body c each le ∙ sym (drop-drop 10 2 body))
          ∙ ap (λ (l : List ℕ). interface ++ l) (take-append-drop 10 (drop 2 body))
          ∙ spelled_2 o body 0 each (omega (arith, le));
    }

simple-of : (o : Order) (seen : List Interface) (body : List ℕ) → AreOctets body → length body % 4 ≡ 0 → 4 ≤ length body
    → IsFramed o seen 3 body
simple-of o seen body each four le =
    let original : ℕ = number_4 o body 0 in
    let c = content-of (simple_length seen original) (drop 4 body) (omega (arith, four, le, length-drop 4 body)) in
    record {
      framed = Simple original c.content;
      is_block = (number_4-small o body 0 each, c.captured_is, c.is_content);
      kind_is = refl;
      body_is = ap (λ (l : List ℕ). octets_4 o original ++ l) c.octets_are ∙ spelled_4 o body 0 each le;
    }

pub framed-of : (o : Order) (seen : List Interface) (kind : ℕ) (body : List ℕ) → AreOctets body → length body % 4 ≡ 0
    → kind < 2 ^ 32 → (kind ≡ 0x0A0D0D0A → ⊥) → least kind ≤ 12 + length body → (kind ≡ 1 → length seen < 4096)
    → IsFramed o seen kind body
framed-of o seen kind body each four small other long few =
    by (cases_Bool (kind == 1)) (cases_Bool (kind == 2)) (cases_Bool (kind == 3)) (cases_Bool (kind == 6))
  where
    at : (n : ℕ) → kind ≡ n → least n ≤ 12 + length body
    at n e = subst (λ (k : ℕ). least k ≤ 12 + length body) e long

    by : ((kind == 1) ≡ true) ⊎ ((kind == 1) ≡ false) → ((kind == 2) ≡ true) ⊎ ((kind == 2) ≡ false)
        → ((kind == 3) ≡ true) ⊎ ((kind == 3) ≡ false) → ((kind == 6) ≡ true) ⊎ ((kind == 6) ≡ false) → IsFramed o seen kind body
    by (inl one) b c d =
        let e : kind ≡ 1 = eqb-true kind 1 one in
        subst (λ (k : ℕ). IsFramed o seen k body) (sym e) (description-of o seen body each four (omega (arith, at 1 e)) (few e))
    by (inr one) (inl two) c d =
        let e : kind ≡ 2 = eqb-true kind 2 two in
        subst (λ (k : ℕ). IsFramed o seen k body) (sym e) (old-of o seen body each four (omega (arith, at 2 e)))
    by (inr one) (inr two) (inl three) d =
        let e : kind ≡ 3 = eqb-true kind 3 three in
        subst (λ (k : ℕ). IsFramed o seen k body) (sym e) (simple-of o seen body each four (omega (arith, at 3 e)))
    by (inr one) (inr two) (inr three) (inl six) =
        let e : kind ≡ 6 = eqb-true kind 6 six in
        subst (λ (k : ℕ). IsFramed o seen k body) (sym e) (enhanced-of o seen body each four (omega (arith, at 6 e)))
    by (inr one) (inr two) (inr three) (inr six) = record {
      framed = Other kind body;
      is_block = (small, other, eqb-false kind 1 one, eqb-false kind 2 two, eqb-false kind 3 three, eqb-false kind 6 six, four);
      kind_is = refl;
      body_is = refl;
    }
