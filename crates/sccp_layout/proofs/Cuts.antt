-- A message that is joined ends with its last piece, so no shorter beginning of it has parts.
use Rattle.std.proofs.Common.{◌≡◌, ◌≢◌, ℕ, zero, suc, ◌+◌, ◌*◌, ◌<◌, ◌≤◌, Bool, true, false, cond, not, ltb, leb, eqb, ◌&&◌, List, [], ◌∷◌}
use Rattle.std.proofs.Common.{◌++◌, length, take, drop, Option, Some, None, refl, sym, ap, subst, ◌∙◌, zero-add, append_assoc, arith, inl}
use Rattle.std.proofs.Common.{inr, ◌⊎◌}
use Rattle.std.specs.Prelude.{IsTrue, slice_range, slice_get}
use Rattle.std.specs.List.{flat_map, AllByRecursion}
use Rattle.std.proofs.lemmas.Bool.{cases_lt, leb-true, ltb-true, eqb-false}
use Rattle.std.proofs.lemmas.List.{length-append, length-drop, length-take-le, take-append-drop, drop-append-le, get_or-take, append-nil}
use Rattle.sccp_layout.specs.declared.shape.Layout.{Layout}
use Rattle.sccp_layout.specs.declared.parts.Parts.{Parts}
use Rattle.sccp_layout.specs.Parameter.{Parameter}
use Rattle.sccp_layout.specs.Table.{layout_of}
use Rattle.sccp_layout.specs.Places.{width, number_at, pointer_place, pointer, place, after_pointers, names_place, contents, part}
use Rattle.sccp_layout.specs.Places.{listed_below}
use Rattle.sccp_layout.specs.Joining.{number_octets, spelled_part, spelled_parts, spelled_parameter, spelled_list, pieces, joined}
use Rattle.sccp_layout.specs.Parts.{Fits, BeginsWithList, ParamsAre, HasParts}
use Rattle.sccp_layout.proofs.Lists.{listing, list_is, list_again}
use Rattle.sccp_layout.proofs.Laws.{first_true, some_part}
use Rattle.sccp_layout.proofs.Joined.{whole, head, length-head, length-number_octets, number_here, number_drop, length-spelled_parts}
use Rattle.sccp_layout.proofs.Joined.{some_octets, with_optional, PointsTo, points_to, same_layout}

-- A beginning has the same pointers.

number_cut : (two : Bool) (b : List ℕ) (n at : ℕ) → at + width two ≤ n → number_at two (take n b) at ≡ number_at two b at
number_cut true b n at le = rw (get_or-take n b at 0 (omega arith), get_or-take n b (at + 1) 0 (omega arith)) refl
number_cut false b n at le = rw (get_or-take n b at 0 (omega arith)) refl

room : (two : Bool) (i k : ℕ) → i < k → width two * i + width two ≤ width two * k
room true i k lt = omega arith
room false i k lt = omega arith

pointer_cut : (l : Layout) (b : List ℕ) (n i : ℕ) → after_pointers l ≤ n → i < l.variable + cond l.optional 1 0
    → pointer l (take n b) i ≡ pointer l b i
pointer_cut l b n i le lt = number_cut l.long b n (pointer_place l i) (omega (arith, room l.long i (l.variable + cond l.optional 1 0) lt))

place_cut : (l : Layout) (b : List ℕ) (n i : ℕ) → after_pointers l ≤ n → i < l.variable + cond l.optional 1 0
    → place l (take n b) i ≡ place l b i
place_cut l b n i le lt = ap (λ (k : ℕ). pointer_place l i + k + cond l.long 1 0) (pointer_cut l b n i le lt)

-- A piece that ends at the end is in no shorter beginning.

some_true : {X : Type 0} (t : Bool) (x y : X) → cond t (Some x) None ≡ Some y → t ≡ true
some_true true x y e = refl
some_true false x y e = absurd cc

part_ends : (two : Bool) (b : List ℕ) (n at : ℕ) (y x : List ℕ) → n ≤ length b → drop at b ≡ spelled_part two y
    → contents two (take n b) at ≡ Some x → length b ≤ n
part_ends two b n at y x le here read =
    let c = take n b in
    let inside : at + width two + number_at two c at ≤ length c =
    leb-true _ _ (some_true (leb (at + width two + number_at two c at) (length c))
    (slice_range c (at + width two) (at + width two + number_at two c at)) x read) in
    let cut : length c ≡ n = length-take-le n b le in
    let number : number_at two c at ≡ length y =
    number_cut two b n at (omega (arith, inside, cut)) ∙ number_drop two b at ∙ ap (λ (z : List ℕ). number_at two z 0) here
    ∙ number_here two (length y) [] y in
    omega (
      arith,
      inside,
      cut,
      number,
      length-drop at b,
      ap length here,
      length-append
          (number_octets two (length y)) y,
      length-number_octets two (length y),
    )

list_ends : (b : List ℕ) (n at : ℕ) (ps qs : List Parameter) → at < n → n ≤ length b → drop at b ≡ flat_map spelled_parameter ps ++ 0 ∷ []
    → AllByRecursion (λ q. q.name ≢ 0) ps → BeginsWithList (drop at (take n b)) qs → length b ≤ n
list_ends b n at ps qs lt le here named h =
    let most : ℕ = suc (length ps + length qs) in
    let cut : length (take n b) ≡ n = length-take-le n b le in
    let longer : drop at b ≡ flat_map spelled_parameter qs ++ 0 ∷ (h.rest ++ drop n b) =
    ap (drop at) (sym (take-append-drop n b)) ∙ drop-append-le at (take n b) (drop n b) (omega (arith, cut))
    ∙ ap (λ (x : List ℕ). x ++ drop n b) h.spelled ∙ append_assoc (flat_map spelled_parameter qs) (0 ∷ h.rest) (drop n b) in
    let one : listed_below most b at ≡ listing ps = list_again ps most b at [] (omega arith) here named in
    let other : listed_below most b at ≡ listing qs = list_again qs most b at (h.rest ++ drop n b) (omega arith) longer h.named in
    let same : ps ≡ qs = list_is ps qs (sym one ∙ other) in
    omega (
      arith,
      cut,
      length-drop at b,
      length-drop at (take n b),
      ap length here,
      ap length h.spelled,
      ap
          (λ (z : List Parameter). length (flat_map spelled_parameter z)) same,
      length-append (flat_map spelled_parameter ps)
          (0 ∷ []),
      length-append (flat_map spelled_parameter qs) (0 ∷ h.rest),
    )

-- The last piece.

-- the last variable part, and the pieces before it
record Last (l : Layout) (xs : List (List ℕ)) (k : ℕ) (j : ℕ) : Type 0 where
  front : List (List ℕ)
  octets : List ℕ
  is : spelled_parts l j xs ≡ front ++ spelled_part (l.long && eqb (j + k) 2) octets ∷ []
  before : length front ≡ k

last_of : (l : Layout) (x : List ℕ) (xs : List (List ℕ)) (j : ℕ) → Last l (x ∷ xs) (length xs) j
last_of l x [] j = record { front = []; octets = x; is = (let k : j + 0 ≡ j = omega arith in rw k refl); before = refl }
last_of l x (y ∷ ys) j =
    let k : j + suc (length ys) ≡ j + 1 + length ys = omega arith in
    let rest = last_of l y ys (j + 1) in
    record {
      front = spelled_part (l.long && eqb j 2) x ∷ rest.front;
      octets = rest.octets;
      is = rw k (ap (λ (zs : List (List ℕ)). spelled_part (l.long && eqb j 2) x ∷ zs) rest.is);
      before = ap suc rest.before;
    }

-- no octets of an optional part
no_list : (optional : Bool) → whole (cond optional (spelled_list [] ∷ []) []) ≡ []
no_list true = refl
no_list false = refl

-- the pieces, if there are no parameters
without_list : (l : Layout) (p : Parts) → p.params ≡ [] → pieces l p ≡ spelled_parts l 0 p.variable
    ++ cond l.optional (spelled_list [] ∷ []) []
without_list l p none = ap (λ (ps : List Parameter). spelled_parts l 0 p.variable ++ cond l.optional (spelled_list ps ∷ []) []) none

-- if nothing follows the pointers, the message ends with them
ends_with_pointers : (l : Layout) (p : Parts) → Fits l p → p.params ≡ [] → p.variable ≡ [] → length (joined l p) ≤ after_pointers l
ends_with_pointers l p fits none empty =
    let nothing : whole (pieces l p) ≡ [] = ap whole (without_list l p none
    ∙ ap (λ (xs : List (List ℕ)). spelled_parts l 0 xs ++ cond l.optional (spelled_list [] ∷ []) []) empty) ∙ no_list l.optional in
    omega (arith, length-append (head l p) (whole (pieces l p)), length-head l p fits, ap length nothing)

-- if there are no parameters, the message ends with its last variable part
ends_with_part : (l : Layout) (p : Parts) (k : ℕ) → Fits l p → p.params ≡ [] → (last : Last l p.variable k 0)
    → drop (place l (joined l p) k) (joined l p) ≡ spelled_part (l.long && eqb k 2) last.octets
ends_with_part l p k fits none last =
    let two : Bool = l.long && eqb k 2 in
    let o = some_octets two last.octets [] in
    let opt : List (List ℕ) = cond l.optional (spelled_list [] ∷ []) [] in
    let same : spelled_part (l.long && eqb (0 + k) 2) last.octets ≡ o.0 ∷ o.1 = ap (λ (i : ℕ). spelled_part (l.long && eqb i 2) last.octets)
    (zero-add k) ∙ o.2 in
    let split : pieces l p ≡ last.front ++ (o.0 ∷ o.1) ∷ opt =
    without_list l p none ∙ ap (λ (xs : List (List ℕ)). xs ++ opt) (last.is ∙ ap (λ (x : List ℕ). last.front ++ x ∷ []) same)
    ∙ append_assoc last.front ((o.0 ∷ o.1) ∷ []) opt in
    let to : PointsTo l (joined l p) k ((o.0 ∷ o.1) ++ whole opt) =
    subst (λ (i : ℕ). PointsTo l (joined l p) i ((o.0 ∷ o.1) ++ whole opt)) last.before
    (points_to l p last.front o.0 o.1 opt fits split) in
    to.here ∙ ap (λ (x : List ℕ). (o.0 ∷ o.1) ++ x) (no_list l.optional) ∙ append-nil (o.0 ∷ o.1) ∙ sym o.2

-- if there are parameters, the message ends with them
ends_with_list : (l : Layout) (p : Parts) (q : Parameter) (qs : List Parameter) → Fits l p → p.params ≡ q ∷ qs → l.optional ≡ true
    → PointsTo l (joined l p) l.variable (flat_map spelled_parameter (q ∷ qs) ++ 0 ∷ [])
ends_with_list l p q qs fits same e =
    let front = spelled_parts l 0 p.variable in
    let octets : List ℕ = length q.octets ∷ (q.octets ++ flat_map spelled_parameter qs) ++ 0 ∷ [] in
    let split : pieces l p ≡ front ++ (q.name ∷ octets) ∷ [] = with_optional l p e
    ∙ ap (λ (ps : List Parameter). front ++ spelled_list ps ∷ []) same in
    let k : length front ≡ l.variable = length-spelled_parts l 0 p.variable ∙ fits.variable in
    let to : PointsTo l (joined l p) l.variable ((q.name ∷ octets) ++ []) =
    subst (λ (i : ℕ). PointsTo l (joined l p) i ((q.name ∷ octets) ++ [])) k (points_to l p front q.name octets [] fits split) in
    record { names = to.names; here = to.here ∙ append-nil (q.name ∷ octets) }

-- The law.

last_true : (a b c : Bool) → (not a && b && c) ≡ true → c ≡ true
last_true true b c h = absurd cc
last_true false true c h = h
last_true false false c h = absurd cc

either : (b : Bool) → (b ≡ true) ⊎ (b ≡ false)
either true = inl refl
either false = inr refl

list_cut : (l : Layout) (b : List ℕ) (n : ℕ) (ps qs : List Parameter) → after_pointers l ≤ n → n ≤ length b → l.optional ≡ true
    → PointsTo l b l.variable (flat_map spelled_parameter ps ++ 0 ∷ []) → AllByRecursion (λ q. q.name ≢ 0) ps
    → ParamsAre l (take n b) qs → length b ≤ n
list_cut l b n ps qs after le e to named (inl (inl none, empty)) = absurd (let no_part : true ≡ false = sym e ∙ none in cc)
list_cut l b n ps qs after le e to named (inl (inr none, empty)) =
    let i_in : l.variable < l.variable + cond l.optional 1 0 = rw e (omega arith) in
    let some : eqb (pointer l b l.variable) 0 ≡ false = first_true (eqb (pointer l b l.variable) 0)
    (leb (after_pointers l) (place l b l.variable)) (ltb (place l b l.variable) (length b)) to.names in
    absurd (eqb-false (pointer l b l.variable) 0 some (sym (pointer_cut l b n l.variable after i_in) ∙ none))
list_cut l b n ps qs after le e to named (inr (optional, names, list)) =
    let c = take n b in
    let i_in : l.variable < l.variable + cond l.optional 1 0 = rw e (omega arith) in
    let same : place l c l.variable ≡ place l b l.variable = place_cut l b n l.variable after i_in in
    let inside : place l c l.variable < length c = ltb-true _ _
    (last_true (eqb (pointer l c l.variable) 0) (leb (after_pointers l) (place l c l.variable))
    (ltb (place l c l.variable) (length c)) names) in
    list_ends b n (place l b l.variable) ps qs (omega (arith, inside, same, length-take-le n b le)) le to.here named
    (subst (λ (k : ℕ). BeginsWithList (drop k c) qs) same list)

part_cut : (l : Layout) (b : List ℕ) (n k : ℕ) (y : List ℕ) (parts : List (List ℕ)) → after_pointers l ≤ n → n ≤ length b → k < l.variable
    → length parts ≡ l.variable → drop (place l b k) b ≡ spelled_part (l.long && eqb k 2) y
    → part l (take n b) k ≡ slice_get parts k → length b ≤ n
part_cut l b n k y parts after le lt count here is =
    let two : Bool = l.long && eqb k 2 in
    let x = some_part parts k (omega (arith, count)) in
    let same : place l (take n b) k ≡ place l b k = place_cut l b n k after (omega arith) in
    part_ends two b n (place l b k) y x.0 le here (ap (contents two (take n b)) (sym same) ∙ is ∙ x.1)

whole_or_less : (l : Layout) (p q : Parts) (n : ℕ) → Fits l p → AllByRecursion (λ q. q.name ≢ 0) p.params → n ≤ length (joined l p)
    → (h : HasParts (take n (joined l p)) q) → h.layout ≡ l → length (joined l p) ≤ n
whole_or_less l p q n fits named le h same =
    by_params p.params refl
  where
    b : List ℕ
    b = joined l p

    after : after_pointers l ≤ n
    after = omega (arith, subst (λ (m : Layout). after_pointers m ≤ length (take n b)) same h.pointers, length-take-le n b le)

    count : length q.variable ≡ l.variable
    count = h.count ∙ ap (λ (m : Layout). m.variable) same

    by_variable : p.params ≡ [] → (xs : List (List ℕ)) → p.variable ≡ xs → length b ≤ n
    by_variable none [] empty = omega (arith, after, ends_with_pointers l p fits none empty)
    by_variable none (x ∷ xs) is =
        let k : ℕ = length xs in
        let lt : k < l.variable = omega (arith, fits.variable, ap length is) in
        let last : Last l p.variable k 0 = subst (λ (ys : List (List ℕ)). Last l ys k 0) (sym is) (last_of l x xs 0) in
        let part_is : part l (take n b) k ≡ slice_get q.variable k =
        (subst (λ (m : Layout). (i : ℕ) → i < m.variable
        → IsTrue (names_place m (take n b) i) × (part m (take n b) i ≡ slice_get q.variable i)) same h.variable k lt).1 in
        part_cut l b n k last.octets q.variable after le lt count (ends_with_part l p k fits none last) part_is

    by_params : (ps : List Parameter) → p.params ≡ ps → length b ≤ n
    by_params [] none = by_variable none p.variable refl
    by_params (o ∷ os) is =
        elim (either l.optional) [
          | inl e ↦ list_cut l b n (o ∷ os) q.params after le e (ends_with_list l p o os fits is e)
              (subst (λ (ps : List Parameter). AllByRecursion (λ q. q.name ≢ 0) ps) is named)
              (subst (λ (m : Layout). ParamsAre m (take n b) q.params) same h.params)
          | inr e ↦ absurd (let none : o ∷ os ≡ [] = sym is ∙ fits.params e in cc)
        ]

abbrev some_code : ℕ → Option ℕ
some_code c = Some c

same_code : (c d : ℕ) → some_code c ≡ some_code d → c ≡ d
same_code c d e = cc

-- if a beginning of what is joined has parts, it is the whole
pub cut_has_no_parts : (l : Layout) (p q : Parts) (n : ℕ) → layout_of p.code ≡ Some l → Fits l p → AllByRecursion (λ q. q.name ≢ 0) p.params
    → HasParts (take n (joined l p)) q → length (joined l p) ≤ n
cut_has_no_parts l p q zero of_type fits named h = absurd (let none = h.code in cc)
cut_has_no_parts l p q (suc k) of_type fits named h =
    let code : p.code ≡ q.code = same_code p.code q.code h.code in
    let same : h.layout ≡ l = same_layout h.layout l (sym h.of_type ∙ ap layout_of (sym code) ∙ of_type) in
    elim (cases_lt (suc k) (length (joined l p))) [
      | inl lt ↦ whole_or_less l p q (suc k) fits named (omega arith) h same
      | inr le ↦ le
    ]
