-- The text of a title at a node gives the node, the selector, the subsystem number and the digits.
use Rattle.std.specs.Prelude.{ℕ, ◌+◌, ◌<◌, ◌≤◌, ◌≢◌, true, List, [], ◌∷◌, ◌++◌, length, map, slice_index, slice_get, codes, decimal, Some}
use Rattle.std.specs.Prelude.{is_some}
use Rattle.std.specs.List.{All, AllPairs}
use Rattle.std.specs.Option.{option_map_or, unwrap_or}
use Rattle.std.proofs.Common.{◌≡◌, refl, sym, subst, ◌∙◌, ap, arith, get_or, append_assoc}
use Rattle.std.proofs.Math.Logic.{⊎_elim}
use Rattle.std.proofs.lemmas.Bool.{cases_lt, false≢true}
use Rattle.std.proofs.lemmas.Option.{slice_get_cases, get_or_from_slice_get}
use Rattle.std.proofs.lemmas.List.{append_cancel_left}
use Rattle.std.proofs.lemmas.List.Elements.{All-nil, All-cons, All-head, All-tail}
use Rattle.hex.specs.Hex.{hex_digit_value, upper_digits}
use Rattle.hex.proofs.HexLemmas.{IsDigits-upper_digits}
use Rattle.sccp_base.specs.Names.{IsName, is_name_octet}
use Rattle.sccp_base.specs.Selector.{Numbers, IsSelector}
use Rattle.plan_model.specs.declared.node.Node.{Node}
use Rattle.plan_model.specs.declared.spot.Spot.{Spot}
use Rattle.plan_model.specs.Network.{Network}
use Rattle.plan_model.specs.Spots.{IsSpotOf}
use Rattle.sccp_report.specs.Values.{numbered, digits_text, selector_text}
use Rattle.sccp_report.specs.Hops.{node_text, spot_text}
use Rattle.sccp_report.proofs.Parted.{Stops, first_same, rest_same, parted, number_before, glued, no_colon, no_blank}

-- ---- the selector

by_kind : {X : Type 0} (s : Numbers) → IsSelector s
    → (s.kind ≡ 1 → s.translation ≡ 0 → s.plan ≡ 0 → X) → (s.kind ≡ 2 → s.plan ≡ 0 → s.nature ≡ 0 → X) → (s.kind ≡ 3 → s.nature ≡ 0 → X)
    → (s.kind ≡ 4 → X) → X
by_kind s is one two three four = ⊎_elim (λ h. one h.0 h.1 h.2) (⊎_elim (λ h. two h.0 h.1 h.2) (⊎_elim (λ h. three h.0 h.1) four)) is.used

text_of_one : (s : Numbers) (r : List ℕ) → s.kind ≡ 1 → selector_text s ++ r ≡ 49 ∷ 58 ∷ (decimal s.nature ++ r)
unfolding selector_text
text_of_one s r h = rw h refl

text_of_two : (s : Numbers) (r : List ℕ) → s.kind ≡ 2 → selector_text s ++ r ≡ 50 ∷ 58 ∷ (decimal s.translation ++ r)
unfolding selector_text
text_of_two s r h = rw h refl

text_of_three : (s : Numbers) (r : List ℕ) → s.kind ≡ 3 → selector_text s ++ r ≡ 51 ∷ 58
    ∷ (decimal s.translation ++ 58 ∷ (decimal s.plan ++ r))
unfolding selector_text
text_of_three s r h = rw h (ap (λ (t : List ℕ). 51 ∷ 58 ∷ t) (glued (decimal s.translation) 58 (decimal s.plan) r))

text_of_four : (s : Numbers) (r : List ℕ) → s.kind ≡ 4 → selector_text s ++ r ≡ 52 ∷ 58
    ∷ (decimal s.translation ++ 58 ∷ (decimal s.plan ++ 58 ∷ (decimal s.nature ++ r)))
unfolding selector_text
text_of_four s r h =
    rw h (ap (λ (t : List ℕ). 52 ∷ 58 ∷ t) (glued (decimal s.translation ++ (58 ∷ []) ++ decimal s.plan) 58 (decimal s.nature) r
    ∙ glued (decimal s.translation) 58 (decimal s.plan) (58 ∷ (decimal s.nature ++ r))))

-- the first octet is the kind's digit
kind_first : (s : Numbers) (r : List ℕ) → IsSelector s → get_or (selector_text s ++ r) 0 0 ≡ 48 + s.kind
kind_first s r is =
    by_kind s is
    (λ k z p. let e : get_or (selector_text s ++ r) 0 0 ≡ 49 = ap (λ (t : List ℕ). get_or t 0 0) (text_of_one s r k) in omega (arith, e, k))
    (λ k p n. let e : get_or (selector_text s ++ r) 0 0 ≡ 50 = ap (λ (t : List ℕ). get_or t 0 0) (text_of_two s r k) in omega (arith, e, k))
    (λ k n. let e : get_or (selector_text s ++ r) 0 0 ≡ 51 = ap (λ (t : List ℕ). get_or t 0 0) (text_of_three s r k) in omega (arith, e, k))
    (λ k. let e : get_or (selector_text s ++ r) 0 0 ≡ 52 = ap (λ (t : List ℕ). get_or t 0 0) (text_of_four s r k) in omega (arith, e, k))

same_numbers : (a b : Numbers) → a.kind ≡ b.kind → a.translation ≡ b.translation → a.plan ≡ b.plan → a.nature ≡ b.nature → a ≡ b
same_numbers a b k t p n = λ i. record { kind = k i; translation = t i; plan = p i; nature = n i }

pub selector_parted : (a b : Numbers) (q t : List ℕ) → IsSelector a → IsSelector b → selector_text a ++ 32 ∷ q ≡ selector_text b ++ 32 ∷ t
    → (a ≡ b) × (q ≡ t)
selector_parted a b q t ha hb e =
    let kinds : a.kind ≡ b.kind = omega (
      arith,
      sym (kind_first a (32 ∷ q) ha) ∙ ap (λ (x : List ℕ). get_or x 0 0) e
          ∙ kind_first b (32 ∷ t) hb,
    ) in
    by_kind a ha
    (λ k z p. by_kind b hb
    (λ l y o.
    let whole = append_cancel_left (codes "1:") _ _ (sym (text_of_one a (32 ∷ q) k) ∙ e ∙ text_of_one b (32 ∷ t) l) in
    let nature = number_before 32 a.nature b.nature q t (omega (arith, ha.nature)) (omega (arith, hb.nature)) no_blank whole in
    (same_numbers a b kinds (z ∙ sym y) (p ∙ sym o) nature.0, nature.1))
    (λ l o m. absurd (omega (arith, kinds, k, l))) (λ l m. absurd (omega (arith, kinds, k, l))) (λ l. absurd (omega (arith, kinds, k, l))))
    (λ k p n. by_kind b hb
    (λ l y o. absurd (omega (arith, kinds, k, l)))
    (λ l o m.
    let whole = append_cancel_left (codes "2:") _ _ (sym (text_of_two a (32 ∷ q) k) ∙ e ∙ text_of_two b (32 ∷ t) l) in
    let translation = number_before 32 a.translation b.translation q t (omega (arith, ha.translation))
    (omega (arith, hb.translation)) no_blank whole in
    (same_numbers a b kinds translation.0 (p ∙ sym o) (n ∙ sym m), translation.1))
    (λ l m. absurd (omega (arith, kinds, k, l))) (λ l. absurd (omega (arith, kinds, k, l))))
    (λ k n. by_kind b hb
    (λ l y o. absurd (omega (arith, kinds, k, l))) (λ l o m. absurd (omega (arith, kinds, k, l)))
    (λ l m.
    let whole = append_cancel_left (codes "3:") _ _ (sym (text_of_three a (32 ∷ q) k) ∙ e ∙ text_of_three b (32 ∷ t) l) in
    let translation = number_before 58 a.translation b.translation _ _ (omega (arith, ha.translation))
    (omega (arith, hb.translation)) no_colon whole in
    let plan = number_before 32 a.plan b.plan q t (omega (arith, ha.plan)) (omega (arith, hb.plan)) no_blank translation.1 in
    (same_numbers a b kinds translation.0 plan.0 (n ∙ sym m), plan.1))
    (λ l. absurd (omega (arith, kinds, k, l))))
    (λ k. by_kind b hb
    (λ l y o. absurd (omega (arith, kinds, k, l))) (λ l o m. absurd (omega (arith, kinds, k, l)))
    (λ l m. absurd (omega (arith, kinds, k, l)))
    (λ l.
    let whole = append_cancel_left (codes "4:") _ _ (sym (text_of_four a (32 ∷ q) k) ∙ e ∙ text_of_four b (32 ∷ t) l) in
    let translation = number_before 58 a.translation b.translation _ _ (omega (arith, ha.translation))
    (omega (arith, hb.translation)) no_colon whole in
    let plan = number_before 58 a.plan b.plan _ _ (omega (arith, ha.plan)) (omega (arith, hb.plan)) no_colon translation.1 in
    let nature = number_before 32 a.nature b.nature q t (omega (arith, ha.nature)) (omega (arith, hb.nature)) no_blank plan.1 in
    (same_numbers a b kinds translation.0 plan.0 nature.0, nature.1)))

-- ---- the digits

abbrev IsHex : ℕ → Type 0
IsHex c = is_some (hex_digit_value c) ≡ true

abbrev glyph : ℕ → ℕ
glyph = slice_index upper_digits

glyphs_are_hex : (ds : List ℕ) → All (λ d. d < 16) ds → All IsHex (map glyph ds)
glyphs_are_hex [] h = All-nil IsHex
glyphs_are_hex (d ∷ ds) h =
    All-cons IsHex (glyph d) (map glyph ds) (ap is_some (IsDigits-upper_digits d (All-head (λ x. x < 16) d ds h)))
    (glyphs_are_hex ds (All-tail (λ x. x < 16) d ds h))

glyph_same : (d e : ℕ) → d < 16 → e < 16 → glyph d ≡ glyph e → d ≡ e
glyph_same d e hd he same =
    ap (λ o. unwrap_or o 0) (sym (IsDigits-upper_digits d hd) ∙ ap hex_digit_value same ∙ IsDigits-upper_digits e he)

glyphs_same : (ds es : List ℕ) → All (λ d. d < 16) ds → All (λ d. d < 16) es → map glyph ds ≡ map glyph es → ds ≡ es
glyphs_same [] [] hd he same = refl
glyphs_same [] (e ∷ es) hd he same = absurd (omega (arith, ap length same))
glyphs_same (d ∷ ds) [] hd he same = absurd (omega (arith, ap length same))
glyphs_same (d ∷ ds) (e ∷ es) hd he same =
    let first = glyph_same d e (All-head (λ x. x < 16) d ds hd) (All-head (λ x. x < 16) e es he) (first_same _ _ _ _ same) in
    let more = glyphs_same ds es (All-tail (λ x. x < 16) d ds hd) (All-tail (λ x. x < 16) e es he) (rest_same _ _ _ _ same) in
    λ i. first i ∷ more i

not_dash : (c : ℕ) → IsHex c → c ≡ 45 → ⊥
not_dash c h e = false≢true (subst IsHex e h)

blank_is_no_hex : (q : List ℕ) → Stops IsHex (32 ∷ q)
blank_is_no_hex q h = false≢true h

pub digits_parted : (ds es : List ℕ) (q t : List ℕ) → All (λ d. d < 16) ds → All (λ d. d < 16) es
    → digits_text ds ++ 32 ∷ q ≡ digits_text es ++ 32 ∷ t → (ds ≡ es) × (q ≡ t)
unfolding digits_text
digits_parted [] [] q t hd he e = (refl, rest_same 32 32 q t (rest_same 45 45 _ _ e))
digits_parted [] (d ∷ ds) q t hd he e = absurd (not_dash (glyph d) (All-head IsHex _ _ (glyphs_are_hex (d ∷ ds) he))
    (sym (first_same 45 (glyph d) _ _ e)))
digits_parted (d ∷ ds) [] q t hd he e = absurd (not_dash (glyph d) (All-head IsHex _ _ (glyphs_are_hex (d ∷ ds) hd))
    (first_same (glyph d) 45 _ _ e))
digits_parted (d ∷ ds) (f ∷ fs) q t hd he e =
    let p = parted IsHex (map glyph (d ∷ ds)) (map glyph (f ∷ fs)) (32 ∷ q) (32 ∷ t) (glyphs_are_hex (d ∷ ds) hd)
    (glyphs_are_hex (f ∷ fs) he) (blank_is_no_hex q) (blank_is_no_hex t) e in
    (glyphs_same (d ∷ ds) (f ∷ fs) hd he p.0, rest_same 32 32 q t p.1)

-- ---- the node

abbrev IsNameOctet : ℕ → Type 0
IsNameOctet c = is_name_octet c ≡ true

blank_is_no_name : (q : List ℕ) → Stops IsNameOctet (32 ∷ q)
blank_is_no_name q h = false≢true h

-- the name of a node that is there
pub node_named : (plan : Network) (node : ℕ) → node < length plan.nodes → (n : Node) × (node_text plan node ≡ n.name)
    × (slice_get plan.nodes node ≡ Some n)
unfolding node_text
node_named plan node h =
    ⊎_elim
    (λ (p : (x : Node) × (node < length plan.nodes) × (slice_get plan.nodes node ≡ Some x) × (get_or plan.nodes node x ≡ x)).
    (p.0, ap (λ o. option_map_or (λ (n : Node). n.name) o []) p.2, p.2))
    (λ p. absurd (omega (arith, h, p.0)))
    (slice_get_cases plan.nodes node).1

-- names differ, so nodes do
pub node_parted : (plan : Network) (a b : ℕ) (q t : List ℕ) → All (λ n. IsName n.name) plan.nodes
    → AllPairs (λ x y. x.name ≢ y.name) plan.nodes → a < length plan.nodes → b < length plan.nodes
    → node_text plan a ++ 32 ∷ q ≡ node_text plan b ++ 32 ∷ t → (a ≡ b) × (q ≡ t)
node_parted plan a b q t names apart ha hb e =
    let n = node_named plan a ha in
    let m = node_named plan b hb in
    let at_a : get_or plan.nodes a n.0 ≡ n.0 = get_or_from_slice_get plan.nodes a n.0 n.0 n.2 in
    let at_b : get_or plan.nodes b n.0 ≡ m.0 = get_or_from_slice_get plan.nodes b m.0 n.0 m.2 in
    let is_n : IsName n.0.name = subst (λ (x : Node). IsName x.name) at_a (names a n.0 ha) in
    let is_m : IsName m.0.name = subst (λ (x : Node). IsName x.name) at_b (names b n.0 hb) in
    let p = parted IsNameOctet n.0.name m.0.name (32 ∷ q) (32 ∷ t) is_n.each is_m.each (blank_is_no_name q) (blank_is_no_name t)
    (sym (ap (λ (x : List ℕ). x ++ 32 ∷ q) n.1) ∙ e ∙ ap (λ (x : List ℕ). x ++ 32 ∷ t) m.1) in
    let same : (get_or plan.nodes a n.0).name ≡ (get_or plan.nodes b n.0).name = ap (λ (x : Node). x.name) at_a ∙ p.0
    ∙ sym (ap (λ (x : Node). x.name) at_b) in (
      ⊎_elim (λ (below : a < b). absurd (apart a b n.0 below hb same))
          (λ (le : b ≤ a). ⊎_elim (λ (below : b < a). absurd (apart b a n.0 below ha (sym same))) (λ (other : a ≤ b). omega arith)
          (cases_lt b a))
          (cases_lt a b),
      rest_same 32 32 q t p.1,
    )

-- ---- the title at a node

spot_more : (plan : Network) (s : Spot) (r : List ℕ) → spot_text plan s ++ r ≡ 97 ∷ 116 ∷ 32
    ∷ (node_text plan s.node ++ 32 ∷ (selector_text s.selector ++ 32 ∷ (decimal s.ssn ++ 32 ∷ (digits_text s.digits ++ r))))
unfolding spot_text numbered
spot_more plan s r =
    let head : List ℕ = 97 ∷ 116 ∷ 32 ∷ node_text plan s.node in
    let front : List ℕ = head ++ (32 ∷ []) ++ selector_text s.selector in
    glued (front ++ 32 ∷ decimal s.ssn) 32 (digits_text s.digits) r
    ∙ append_assoc front (32 ∷ decimal s.ssn) (32 ∷ (digits_text s.digits ++ r))
    ∙ glued head 32 (selector_text s.selector) (32 ∷ (decimal s.ssn ++ 32 ∷ (digits_text s.digits ++ r)))

same_spots : (a b : Spot) → a.node ≡ b.node → a.selector ≡ b.selector → a.ssn ≡ b.ssn → a.digits ≡ b.digits → a ≡ b
same_spots a b n s m d = λ i. record { node = n i; selector = s i; ssn = m i; digits = d i }

pub spot_parted : (plan : Network) (a b : Spot) (q t : List ℕ) → All (λ n. IsName n.name) plan.nodes
    → AllPairs (λ x y. x.name ≢ y.name) plan.nodes → IsSpotOf plan a → IsSpotOf plan b
    → spot_text plan a ++ 32 ∷ q ≡ spot_text plan b ++ 32 ∷ t → (a ≡ b) × (q ≡ t)
spot_parted plan a b q t names apart ha hb e =
    let whole = append_cancel_left (codes "at ") _ _ (sym (spot_more plan a (32 ∷ q)) ∙ e ∙ spot_more plan b (32 ∷ t)) in
    let node = node_parted plan a.node b.node _ _ names apart ha.node hb.node whole in
    let selector = selector_parted a.selector b.selector _ _ ha.selector hb.selector node.1 in
    let ssn = number_before 32 a.ssn b.ssn _ _ (omega (arith, ha.ssn)) (omega (arith, hb.ssn)) no_blank selector.1 in
    let digits = digits_parted a.digits b.digits q t ha.halves hb.halves ssn.1 in
    (same_spots a b node.0 selector.0 ssn.0 digits.0, digits.1)
