-- the parts of a class are exact
use Rattle.std.specs.Prelude.{ℕ, ◌≡◌, ◌+◌, ◌<◌, ◌≤◌, ◌==◌, if◌then◌else◌, true, false, List, [], ◌∷◌, ◌++◌, length, map, get_or, refl}
use Rattle.std.specs.List.{All, Any, AllPairs, range_with_len}
use Rattle.std.proofs.Common.{zero, suc, sym, ◌∙◌, ap, subst, arith, append_assoc, length-append, zero-add}
use Rattle.std.proofs.lemmas.Bool.{eqb-true, eq-eqb, cases_lt}
use Rattle.std.proofs.Common.{⊎_elim}
use Rattle.std.proofs.lemmas.List.Elements.{All-cons, All-head, All-tail}
use Rattle.std.proofs.lemmas.List.FromFn.{length-map-range_with_len, map-range_with_len_more, get_or-map-range_with_len}
use Rattle.plan_classes.specs.Titles.{Titles, IsClass, IsMember, closed, extended, parts_of, IsPart, Splits, spot_of}

-- a title of a part is the same spot as a title of the class
pub same_spot : (c part : Titles) (digits : List ℕ) → IsPart c part → spot_of part digits ≡ spot_of c digits
same_spot c part digits is = λ i. record { node = is.node i; selector = is.selector i; ssn = is.ssn i; digits = digits }

-- the digit after the known ones is a member's next one
member_extended : (c : Titles) (d : ℕ) (digits : List ℕ) → d < 10 → 0 < c.most → IsMember (extended c d) digits → IsMember c digits
member_extended c d digits lt more m =
    record {
      rest = d ∷ m.rest;
      whole = m.whole ∙ append_assoc c.known (d ∷ []) m.rest;
      decimal = All-cons (λ x. x < 10) d m.rest lt m.decimal;
      least = omega (arith, m.least);
      most = omega (arith, m.most, more);
    }

member_closed : (c : Titles) (digits : List ℕ) → c.least ≡ 0 → IsMember (closed c) digits → IsMember c digits
member_closed c digits e m =
    record { rest = m.rest; whole = m.whole; decimal = m.decimal; least = omega (arith, e); most = omega (arith, m.most) }

part_extended : (c : Titles) (d : ℕ) → IsClass c → 0 < c.most → d < 10 → IsPart c (extended c d)
part_extended c d is more lt =
    record {
      cover = refl;
      node = refl;
      selector = refl;
      ssn = refl;
      fewer = omega arith;
      class = record { range = omega (arith, is.range); room = omega (arith, is.room, length-append c.known (d ∷ [])) };
      inside = λ digits m. member_extended c d digits lt more m;
    }

part_closed : (c : Titles) → IsClass c → 0 < c.most → c.least ≡ 0 → IsPart c (closed c)
part_closed c is more e =
    record {
      cover = refl;
      node = refl;
      selector = refl;
      ssn = refl;
      fewer = more;
      class = record { range = omega arith; room = omega (arith, is.room) };
      inside = λ digits m. member_closed c digits e m;
    }

each_extended : (c : Titles) → IsClass c → 0 < c.most → All (IsPart c) (map (extended c) (range_with_len 0 10))
each_extended c is more = λ k d lt.
    let in' : k < 10 = omega (arith, length-map-range_with_len (extended c) 0 10) in
    subst (IsPart c) (sym (get_or-map-range_with_len (extended c) 0 10 k k d in' (zero-add k))) (part_extended c k is more in')

-- two digits at the same place are one
next_digit : (known xs ys : List ℕ) (a b : ℕ) → (known ++ a ∷ []) ++ xs ≡ (known ++ b ∷ []) ++ ys → a ≡ b
next_digit [] xs ys a b e = cc
next_digit (k ∷ ks) xs ys a b e = next_digit ks xs ys a b (ap tail e)
  where
    tail : List ℕ → List ℕ
    tail [] = []
    tail (z ∷ zs) = zs

longer_than : (xs ys zs : List ℕ) (a : ℕ) → xs ++ ys ≡ (xs ++ a ∷ []) ++ zs → 0 < length ys
longer_than xs ys zs a e = omega (arith, ap length e, length-append xs ys, length-append (xs ++ a ∷ []) zs, length-append xs (a ∷ []))

apart_extended : (c : Titles) → AllPairs (λ p q. (digits : List ℕ) → IsMember p digits → IsMember q digits
    → ⊥) (map (extended c) (range_with_len 0 10))
apart_extended c = λ i j d lt in'.
    let ten : j < 10 = omega (arith, length-map-range_with_len (extended c) 0 10) in
    let at_i : get_or (map (extended c) (range_with_len 0 10)) i d ≡ extended c i = get_or-map-range_with_len (extended c) 0 10 i i d
    (omega arith) (zero-add i) in
    let at_j : get_or (map (extended c) (range_with_len 0 10)) j d ≡ extended c j = get_or-map-range_with_len (extended c) 0 10 j j d ten
    (zero-add j) in
    λ digits m n.
    let a : IsMember (extended c i) digits = subst (λ (p : Titles). IsMember p digits) at_i m in
    let b : IsMember (extended c j) digits = subst (λ (p : Titles). IsMember p digits) at_j n in
    let e : i ≡ j = next_digit c.known a.rest b.rest i j (sym a.whole ∙ b.whole) in
    omega arith

-- pairs of a list with one more element in front
AllPairs-cons : {X : Type 0} (R : X → X → Type 0) (x : X) (xs : List X) → All (R x) xs → AllPairs R xs → AllPairs R (x ∷ xs)
AllPairs-cons {X} R x xs here rest zero zero d lt in' = absurd (omega arith)
AllPairs-cons {X} R x xs here rest zero (suc j) d lt in' = here j d (omega arith)
AllPairs-cons {X} R x xs here rest (suc i) zero d lt in' = absurd (omega arith)
AllPairs-cons {X} R x xs here rest (suc i) (suc j) d lt in' = rest i j d (omega arith) (omega arith)

-- the closed part has none of the titles with a further digit
apart_closed : (c : Titles) → All (λ q. (digits : List ℕ) → IsMember (closed c) digits → IsMember q digits
    → ⊥) (map (extended c) (range_with_len 0 10))
apart_closed c = λ k d lt digits m n.
    let in' : k < 10 = omega (arith, length-map-range_with_len (extended c) 0 10) in
    let b : IsMember (extended c k) digits = subst (λ (p : Titles). IsMember p digits)
    (get_or-map-range_with_len (extended c) 0 10 k k d in' (zero-add k)) n in
    omega (arith, m.most, longer_than c.known m.rest b.rest k (sym m.whole ∙ b.whole))

-- a member with a further digit is in that digit's part
in_extended : (c : Titles) (digits : List ℕ) (x : ℕ) (xs : List ℕ) → digits ≡ c.known ++ (x ∷ xs) → All (λ d. d < 10) (x ∷ xs)
    → c.least ≤ length (x ∷ xs) → length (x ∷ xs) ≤ c.most → Any (λ part. IsMember part digits) (map (extended c) (range_with_len 0 10))
in_extended c digits x xs e dec lo hi =
    let lt : x < 10 = All-head (λ d. d < 10) x xs dec in
    let member : IsMember (extended c x) digits =
    record {
      rest = xs;
      whole = e ∙ sym (append_assoc c.known (x ∷ []) xs);
      decimal = All-tail (λ d. d < 10) x xs dec;
      least = omega (arith, lo);
      most = omega (arith, hi);
    } in (
      x,
      extended c x,
      omega (arith, length-map-range_with_len (extended c) 0 10),
      get_or-map-range_with_len (extended c) 0 10 x x
          (extended c x) lt (zero-add x),
      member,
    )

pub splits_open : (c : Titles) → IsClass c → 0 < c.most → 0 < c.least → Splits c (map (extended c) (range_with_len 0 10))
splits_open c is more some =
    record {
      each = each_extended c is more;
      whole = λ digits m. inside digits m.rest m.whole m.decimal m.least m.most;
      once = apart_extended c;
    }
  where
    inside : (digits rest : List ℕ) → digits ≡ c.known ++ rest → All (λ d. d < 10) rest → c.least ≤ length rest → length rest ≤ c.most
        → Any (λ part. IsMember part digits) (map (extended c) (range_with_len 0 10))
    inside digits [] e dec lo hi = absurd (omega arith)
    inside digits (x ∷ xs) e dec lo hi = in_extended c digits x xs e dec lo hi

pub splits_closed : (c : Titles) → IsClass c → 0 < c.most → c.least ≡ 0 → Splits c (closed c ∷ map (extended c) (range_with_len 0 10))
splits_closed c is more zeros =
    record {
      each = All-cons (IsPart c) (closed c) (map (extended c) (range_with_len 0 10)) (part_closed c is more zeros)
          (each_extended c is more);
      whole = λ digits m. inside digits m.rest m.whole m.decimal m.least m.most;
      once = AllPairs-cons (λ p q. (digits : List ℕ) → IsMember p digits → IsMember q digits
          → ⊥) (closed c) (map (extended c) (range_with_len 0 10)) (apart_closed c) (apart_extended c);
    }
  where
    inside : (digits rest : List ℕ) → digits ≡ c.known ++ rest → All (λ d. d < 10) rest → c.least ≤ length rest → length rest ≤ c.most
        → Any (λ part. IsMember part digits) (closed c ∷ map (extended c) (range_with_len 0 10))
    inside digits [] e dec lo hi = (
      0,
      closed c,
      omega arith,
      refl,
      record
          { rest = []; whole = e; decimal = dec; least = omega arith; most = omega arith },
    )
    inside digits (x ∷ xs) e dec lo hi =
        let a = in_extended c digits x xs e dec lo hi in
        (suc a.0, a.1, omega (arith, a.2), a.3, a.4)

pub splits_parts : (c : Titles) → IsClass c → 0 < c.most → Splits c (parts_of c)
splits_parts c is more =
    elim (c.least == 0) as (λ b. (c.least == 0) ≡ b
    → Splits c ((if b then closed c ∷ [] else []) ++ map (extended c) (range_with_len 0 10))) [
      | true ↦ λ e. splits_closed c is more (eqb-true c.least 0 e)
      | false ↦ λ e. splits_open c is more (let ne : 0 < c.least = ⊎_elim (λ (z : 0 < c.least). z)
          (λ (z : c.least ≤ 0). absurd (let q : (c.least == 0) ≡ true = eq-eqb c.least 0 (omega arith) in cc)) (cases_lt 0 c.least) in ne)
    ] refl

-- an element of the parts is a part of the class
pub part_of : (c : Titles) (ps qs : List Titles) (i : ℕ) (p : Titles) → Splits c ps → qs ≡ ps → i < length qs → p ≡ get_or qs i p
    → IsPart c p
part_of c ps qs i p splits same lt at = subst (IsPart c) (sym at)
    (subst (λ (xs : List Titles). IsPart c (get_or xs i p)) (sym same) (splits.each i p (omega (arith, ap length same))))

pub parts_more : (f : ℕ → Titles) (front ps qs : List Titles) (n : ℕ) (x : Titles) → qs ≡ ps ++ x ∷ [] → x ≡ f n
    → ps ≡ front ++ map f (range_with_len 0 n) → qs ≡ front ++ map f (range_with_len 0 (n + 1))
parts_more f front ps qs n x e at h =
    e ∙ (ap (λ (ys : List Titles). ys ++ x ∷ []) h ∙ (append_assoc front (map f (range_with_len 0 n)) (x ∷ [])
    ∙ ap (λ (ys : List Titles). front ++ ys) (ap (λ (y : Titles). map f (range_with_len 0 n) ++ y ∷ []) at
    ∙ sym (map-range_with_len_more f 0 n n (zero-add n)))))

pub splits_all : (c : Titles) (ps : List Titles) (n : ℕ) → IsClass c → 0 < c.most → n ≡ 10
    → ps ≡ (if c.least == 0 then closed c ∷ [] else []) ++ map (extended c) (range_with_len 0 n) → Splits c ps
splits_all c ps n is more ten e =
    subst (Splits c) (sym (e ∙ ap (λ (k : ℕ). (if c.least == 0 then closed c ∷ [] else []) ++ map (extended c) (range_with_len 0 k)) ten))
    (splits_parts c is more)
