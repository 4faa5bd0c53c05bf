-- One header after another, and one tag after another.
use Rattle.std.proofs.Common.{◌≡◌, ℕ, zero, suc, ◌+◌, ◌-◌, ◌/◌, ◌<◌, ◌≤◌, Bool, true, false, List, [], ◌∷◌, length, map, take, drop, get_or}
use Rattle.std.proofs.Common.{Result, Ok, Err}
use Rattle.std.proofs.Common.{IfOk, refl, sym, ◌∙◌, subst, arith}
use Rattle.std.proofs.lemmas.Bool.{ne_eqb, lt-ltb, le-ltb}
use Rattle.std.proofs.lemmas.List.{length-drop, take_all}
use Rattle.packet_layers.specs.declared.found.Found.{Found}
use Rattle.packet_layers.specs.declared.layer.Layer.TheVariants.{Ethernet}
use Rattle.packet_layers.specs.declared.fault.Fault.TheVariants.{Short}
use Rattle.packet_layers.specs.Values.{Carried, found_as, Unread, Other}
use Rattle.packet_layers.specs.Numbers.{number_2}
use Rattle.packet_layers.specs.Layers.{after_extensions, by_type, extension, extension_then, ip, ipv6, ipv6_size, is_tag, sctp}

-- an answer to one question answers an equal one
pub carry : {E : Type 0} (r : Result (List Found) E) (a b : List Carried) → IfOk r (λ l. map found_as l ≡ a) → a ≡ b
    → IfOk r (λ l. map found_as l ≡ b)
carry r a b h e = subst (λ (x : List Carried). IfOk r (λ l. map found_as l ≡ x)) e h

-- ---- extension headers

pub no_more : (most kind whole : ℕ) (b : List ℕ) → most ≡ 0 → Other ∷ [] ≡ after_extensions most kind whole b
unfolding after_extensions
no_more zero kind whole b e = refl
no_more (suc most) kind whole b e = absurd (omega arith)

pub is_sctp : (most kind whole : ℕ) (b : List ℕ) → 0 < most → kind ≡ 132 → sctp whole b ≡ after_extensions most kind whole b
unfolding after_extensions
is_sctp zero kind whole b some e = absurd (omega arith)
is_sctp (suc most) kind whole b some e = rw e refl

next : (most kind whole : ℕ) (b : List ℕ) → 0 < most → (kind ≡ 132 → ⊥)
    → after_extensions most kind whole b
    ≡ extension_then (λ size. after_extensions (most - 1) (get_or b 0 0) (whole - size) (drop size b)) (extension kind b)
unfolding after_extensions
next zero kind whole b some ne = absurd (omega arith)
next (suc most) kind whole b some ne = let e : suc most - 1 ≡ most = omega arith in rw (e, ne_eqb kind 132 ne) refl

pub ends : (most kind whole : ℕ) (b : List ℕ) (c : Carried) → 0 < most → (kind ≡ 132 → ⊥) → Err c ≡ extension kind b
    → c ∷ [] ≡ after_extensions most kind whole b
ends most kind whole b c some ne err = sym (next most kind whole b some ne ∙ rw (← err) refl)

pub goes_on : (most left_most kind whole left size : ℕ) (b rest : List ℕ) (total : List Carried)
    → after_extensions most kind whole b ≡ total → most ≡ left_most + 1 → (kind ≡ 132 → ⊥) → Ok size ≡ extension kind b
    → left ≡ whole - size → rest ≡ drop size b → after_extensions left_most (get_or b 0 0) left rest ≡ total
goes_on most left_most kind whole left size b rest total e count ne ok left_is rest_is =
    let less : most - 1 ≡ left_most = omega arith in
    sym (next most kind whole b (omega arith) ne ∙ rw (← ok, less, ← left_is, ← rest_is) refl) ∙ e

pub all_after : (n : ℕ) (b : List ℕ) → n ≤ length b → take (length b - n) (drop n b) ≡ drop n b
all_after n b le = take_all (length b - n) (drop n b) (omega (arith, length-drop n b))

pub whole_ipv6 : (b part : List ℕ) (whole : ℕ) → 40 ≤ length b → get_or b 0 0 / 16 ≡ 6 → whole ≡ ipv6_size b
    → part ≡ take whole (take (length b - 40) (drop 40 b)) → after_extensions (length b) (get_or b 6 0) whole part ≡ ipv6 b
unfolding ipv6
whole_ipv6 b part whole some version size part_is =
    rw (le-ltb (length b) 40 some, version, part_is, all_after 40 b some, size) refl

-- ---- tags

pub no_tag_more : (most kind : ℕ) (b : List ℕ) → most ≡ 0 → Other ∷ [] ≡ by_type most kind b
unfolding by_type
no_tag_more zero kind b e = refl
no_tag_more (suc most) kind b e = absurd (omega arith)

pub short_tag : (most kind : ℕ) (b : List ℕ) (tag : Bool) → 0 < most → tag ≡ is_tag kind → tag ≡ true → length b < 4
    → Unread (Short Ethernet) ∷ [] ≡ by_type most kind b
unfolding by_type
short_tag zero kind b tag some e t few = absurd (omega arith)
short_tag (suc most) kind b tag some e t few = rw (← e, t, lt-ltb (length b) 4 few) refl

pub is_ip : (most kind : ℕ) (b : List ℕ) (tag : Bool) → 0 < most → tag ≡ is_tag kind → tag ≡ false → kind ≡ 0x0800
    → ip b ≡ by_type most kind b
unfolding by_type
is_ip zero kind b tag some e f same = absurd (omega arith)
is_ip (suc most) kind b tag some e f same = rw (← e, f, same) refl

pub is_ipv6 : (most kind : ℕ) (b : List ℕ) (tag : Bool) → 0 < most → tag ≡ is_tag kind → tag ≡ false → kind ≡ 0x86DD
    → ipv6 b ≡ by_type most kind b
unfolding by_type
is_ipv6 zero kind b tag some e f same = absurd (omega arith)
is_ipv6 (suc most) kind b tag some e f same = rw (← e, f, same) refl

pub is_other : (most kind : ℕ) (b : List ℕ) (tag : Bool) → 0 < most → tag ≡ is_tag kind → tag ≡ false → (kind ≡ 0x0800 → ⊥)
    → (kind ≡ 0x86DD → ⊥) → Other ∷ [] ≡ by_type most kind b
unfolding by_type
is_other zero kind b tag some e f not_4 not_6 = absurd (omega arith)
is_other (suc most) kind b tag some e f not_4 not_6 = rw (← e, f, ne_eqb kind 0x0800 not_4, ne_eqb kind 0x86DD not_6) refl

pub after_tag : (most left_most kind inner : ℕ) (b rest : List ℕ) (tag : Bool) (total : List Carried) → by_type most kind b ≡ total
    → most ≡ left_most + 1 → tag ≡ is_tag kind → tag ≡ true → 4 ≤ length b → inner ≡ number_2 b 2 → rest ≡ drop 4 b
    → by_type left_most inner rest ≡ total
unfolding by_type
after_tag zero left_most kind inner b rest tag total whole count e t some inner_is rest_is = absurd (omega arith)
after_tag (suc most) left_most kind inner b rest tag total whole count e t some inner_is rest_is =
    let less : most ≡ left_most = omega arith in
    let one : by_type (suc most) kind b ≡ by_type left_most inner rest =
    rw (← e, t, le-ltb (length b) 4 some, less, ← inner_is, ← rest_is) refl in
    sym one ∙ whole
