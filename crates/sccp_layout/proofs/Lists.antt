-- A list of parameters that is read is at its place, and a list at that place is read.
use Rattle.std.proofs.Common.{◌≡◌, ◌≢◌, ℕ, zero, suc, ◌+◌, ◌-◌, ◌<◌, true, false, leb, eqb, List, [], ◌∷◌, ◌++◌, length, get_or, take, drop}
use Rattle.std.proofs.Common.{Option, Some, None, refl, sym, ap, subst, ◌∙◌, append_assoc, arith, inl, inr}
use Rattle.std.specs.Prelude.{option_map, option_and_then, slice_range}
use Rattle.std.specs.List.{flat_map, AllByRecursion}
use Rattle.std.proofs.lemmas.Bool.{cases_lt, le-leb, leb-true, ne_eqb, eqb-true, eqb-false}
use Rattle.std.proofs.lemmas.List.{length-append, length-drop, length-take, get_or-drop, drop-drop, take_at, drop_at, take-append-drop}
use Rattle.std.proofs.Math.Seq.{drop-cons}
use Rattle.sccp_base.proofs.Cases.{chosen}
use Rattle.sccp_layout.specs.Parameter.{Parameter, parameter}
use Rattle.sccp_layout.specs.Places.{contents, listed_below}
use Rattle.sccp_layout.specs.Joining.{spelled_parameter}
use Rattle.sccp_layout.specs.Parts.{BeginsWithList}
use Rattle.sccp_layout.proofs.Listed.{past_end, at_end, one}

-- the octet at a place, and those after it
record Stands (b : List ℕ) (p x : ℕ) (xs : List ℕ) : Type 0 where
  inside : p < length b
  is : get_or b p 0 ≡ x
  behind : drop (p + 1) b ≡ xs

stands : (b : List ℕ) (p x : ℕ) (xs : List ℕ) → drop p b ≡ x ∷ xs → Stands b p x xs
stands b p x xs e = record {
  inside = omega (arith, length-drop p b, ap length e);
  is = (let zero_more : p + 0 ≡ p = omega arith in ap (λ (k : ℕ). get_or b k 0) (sym zero_more)) ∙ sym (get_or-drop p b 0 0)
      ∙ ap (λ (l : List ℕ). get_or l 0 0) e;
  behind = sym (drop-drop 1 p b) ∙ ap (drop 1) e;
}

-- contents after a length of one octet
pub contents_again : (b : List ℕ) (q : ℕ) (octets more : List ℕ) → drop q b ≡ length octets ∷ (octets ++ more)
    → contents false b q ≡ Some octets
contents_again b q octets more e =
    let s = stands b q (length octets) (octets ++ more) e in
    let fits : leb (q + 1 + (get_or b q 0 + 0)) (length b) ≡ true =
    le-leb _ _ (omega (arith, s.is, length-drop q b, ap length e, length-append octets more)) in
    let len : q + 1 + (get_or b q 0 + 0) - (q + 1) ≡ length octets = omega (arith, s.is) in
    rw (fits, len, s.behind, take_at octets more (length octets) refl) refl

abbrev some : List ℕ → Option (List ℕ)
some x = Some x

some_is : (x y : List ℕ) → some x ≡ some y → x ≡ y
some_is x y e = cc

pub contents_takes : (b : List ℕ) (q : ℕ) (octets : List ℕ) → contents false b q ≡ Some octets
    → drop q b ≡ length octets ∷ (octets ++ drop (q + 1 + length octets) b)
contents_takes b q octets e =
    elim (chosen (leb (q + 1 + (get_or b q 0 + 0)) (length b)) (some (slice_range b (q + 1) (q + 1 + (get_or b q 0 + 0)))) None
    (some octets) e) [
      | inl w ↦ whole w
      | inr w ↦ absurd (let f = w.1 in cc)
    ]
  where
    whole : (leb (q + 1 + (get_or b q 0 + 0)) (length b) ≡ true) × (some (slice_range b (q + 1) (q + 1 + (get_or b q 0 + 0))) ≡ some octets)
        → drop q b ≡ length octets ∷ (octets ++ drop (q + 1 + length octets) b)
    whole w =
        let le = leb-true _ _ w.0 in
        let n : ℕ = q + 1 + (get_or b q 0 + 0) - (q + 1) in
        let front : take n (drop (q + 1) b) ≡ octets = some_is _ _ w.1 in
        let len : length octets ≡ get_or b q 0 = omega (arith, ap length front, length-take n (drop (q + 1) b), length-drop (q + 1) b) in
        let m : n ≡ length octets = omega arith in
        let lt : q < length b = omega arith in
        let add : q + 1 ≡ suc q = omega arith in
        let rest : drop (q + 1) b ≡ octets ++ drop (q + 1 + length octets) b =
        sym (take-append-drop n (drop (q + 1) b)) ∙ ap (λ (x : List ℕ). x ++ drop n (drop (q + 1) b)) front
        ∙ ap (λ (x : List ℕ). octets ++ x) (ap (λ (k : ℕ). drop k (drop (q + 1) b)) m ∙ drop-drop (length octets) (q + 1) b) in
        drop-cons b q 0 lt ∙ ap (λ (x : List ℕ). get_or b q 0 ∷ x) (ap (λ (k : ℕ). drop k b) (sym add) ∙ rest)
        ∙ ap (λ (k : ℕ). k ∷ (octets ++ drop (q + 1 + length octets) b)) (sym len)

pub list_again : (params : List Parameter) (most : ℕ) (b : List ℕ) (p : ℕ) (rest : List ℕ) → length params < most
    → drop p b ≡ flat_map spelled_parameter params ++ 0 ∷ rest → AllByRecursion (λ q. q.name ≢ 0) params
    → listed_below most b p ≡ Some params
list_again params zero b p rest lt e named = absurd (omega arith)
list_again [] (suc most) b p rest lt e named = let s = stands b p 0 rest e in at_end (suc most) b p (omega arith) s.inside s.is
list_again (q ∷ qs) (suc most) b p rest lt e named =
    let more : List ℕ = flat_map spelled_parameter qs ++ 0 ∷ rest in
    let here : drop p b ≡ q.name ∷ (length q.octets ∷ (q.octets ++ more)) = e
    ∙ ap (λ (x : List ℕ). q.name ∷ (length q.octets ∷ x)) (append_assoc q.octets (flat_map spelled_parameter qs) (0 ∷ rest)) in
    let s = stands b p q.name (length q.octets ∷ (q.octets ++ more)) here in
    let read : contents false b (p + 1) ≡ Some q.octets = contents_again b (p + 1) q.octets more s.behind in
    let next : drop (p + 2 + length q.octets) b ≡ more = ap (λ (k : ℕ). drop k b) (omega arith)
    ∙ sym (drop-drop (1 + length q.octets) (p + 1) b) ∙ ap (drop (1 + length q.octets)) s.behind
    ∙ (let k : 1 + length q.octets ≡ suc (length q.octets) = omega arith in rw k (drop_at q.octets more (length q.octets) refl)) in
    let later : listed_below most b (p + 2 + length q.octets) ≡ Some qs = list_again qs most b (p + 2 + length q.octets) rest
    (omega arith) next named.1 in
    one most b p s.inside ∙ rw (s.is, ne_eqb q.name 0 named.0, read, later) refl

abbrev pub listing : List Parameter → Option (List Parameter)
listing x = Some x

pub list_is : (x y : List Parameter) → listing x ≡ listing y → x ≡ y
list_is x y e = cc

ended : (b : List ℕ) (p : ℕ) (params : List Parameter) → p < length b → get_or b p 0 ≡ 0 → [] ≡ params → BeginsWithList (drop p b) params
ended b p params lt e none = subst (BeginsWithList (drop p b)) none (record {
  rest = drop (suc p) b;
  spelled = drop-cons b p 0 lt
      ∙ ap (λ (k : ℕ). k ∷ drop (suc p) b) e;
  named = tt;
})

followed : (b : List ℕ) (p : ℕ) (octets : List ℕ) (ps params : List Parameter) → p < length b → get_or b p 0 ≢ 0
    → drop (p + 1) b ≡ length octets ∷ (octets ++ drop (p + 1 + 1 + length octets) b)
    → BeginsWithList (drop (p + 2 + length octets) b) ps → parameter (get_or b p 0) octets ∷ ps ≡ params → BeginsWithList (drop p b) params
followed b p octets ps params lt ne here later e =
    let add : p + 1 ≡ suc p = omega arith in
    let same : p + 1 + 1 + length octets ≡ p + 2 + length octets = omega arith in
    let rest : drop (suc p) b ≡ length octets ∷ (octets ++ (flat_map spelled_parameter ps ++ 0 ∷ later.rest)) =
    ap (λ (k : ℕ). drop k b) (sym add) ∙ here ∙ ap (λ (x : List ℕ). length octets ∷ (octets ++ x)) (ap (λ (k : ℕ). drop k b) same
    ∙ later.spelled) in
    subst (BeginsWithList (drop p b)) e (record {
      rest = later.rest;
      spelled = drop-cons b p 0 lt ∙ ap (λ (x : List ℕ). get_or b p 0 ∷ x) rest
          ∙ ap (λ (x : List ℕ). get_or b p 0 ∷ (length octets ∷ x))
          (sym (append_assoc octets (flat_map spelled_parameter ps) (0 ∷ later.rest)));
      named = (ne, later.named);
    })

-- the value of an option that was mapped
mapped : (q : Parameter) (o : Option (List Parameter)) (params : List Parameter) → option_map (λ ps. q ∷ ps) o ≡ listing params
    → (ps : List Parameter) × (o ≡ Some ps) × (q ∷ ps ≡ params)
mapped q (Some ps) params e = (ps, refl, list_is _ _ e)
mapped q None params e = absurd cc

-- the value of an option that was looked into
looked : (f : List ℕ → Option (List Parameter)) (o : Option (List ℕ)) (params : List Parameter) → option_and_then f o ≡ listing params
    → (octets : List ℕ) × (o ≡ Some octets) × (f octets ≡ listing params)
looked f (Some octets) params e = (octets, refl, e)
looked f None params e = absurd cc

pub list_takes : (most : ℕ) (b : List ℕ) (p : ℕ) (params : List Parameter) → listed_below most b p ≡ Some params
    → BeginsWithList (drop p b) params
list_takes zero b p params e = absurd cc
list_takes (suc most) b p params e =
    let later : List ℕ → Option (List Parameter) = λ (octets : List ℕ). option_map (λ ps. parameter (get_or b p 0) octets ∷ ps)
    (listed_below most b (p + 2 + length octets)) in
    elim (cases_lt p (length b)) [
      | inr le ↦ absurd (let none = past_end (suc most) b p le in cc)
      | inl lt ↦
          elim (chosen (eqb (get_or b p 0) 0) (listing []) (option_and_then later (contents false b (p + 1))) (listing params)
          (sym (one most b p lt) ∙ e)) [
            | inl w ↦ ended b p params lt (eqb-true _ _ w.0) (list_is [] params w.1)
            | inr w ↦
                let l = looked later (contents false b (p + 1)) params w.1 in
                let m = mapped (parameter (get_or b p 0) l.0) (listed_below most b (p + 2 + length l.0)) params l.2 in
                followed b p l.0 m.0 params lt (eqb-false _ _ w.0) (contents_takes b (p + 1) l.0 l.1)
                (list_takes most b (p + 2 + length l.0) m.0 m.1) m.2
          ]
    ]
