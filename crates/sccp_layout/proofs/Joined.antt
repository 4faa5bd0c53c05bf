-- A message that is joined has the parts that it was joined from.
use Rattle.std.proofs.Common.{◌≡◌, ◌≢◌, ℕ, zero, suc, ◌+◌, ◌-◌, ◌*◌, ◌/◌, ◌%◌, ◌<◌, ◌≤◌, Bool, true, false, cond, not, ltb, leb, eqb, ◌&&◌}
use Rattle.std.proofs.Common.{List, [], ◌∷◌, ◌++◌, length, get_or, drop, Option, Some, Result, Ok, Err, refl, sym, ap, subst, ◌∙◌, zero-add}
use Rattle.std.proofs.Common.{add-zero, append_assoc, arith, inl, inr, ◌⊎◌}
use Rattle.std.specs.Prelude.{IsTrue, slice_range, slice_get, IfOk, OnOk}
use Rattle.std.specs.List.{flat_map, AllByRecursion}
use Rattle.std.proofs.lemmas.Bool.{le-leb, lt-ltb, ne_eqb}
use Rattle.std.proofs.lemmas.List.{length-append, length-drop, take_at, drop_at, drop-drop, get_or-drop, append-nil}
use Rattle.std.proofs.lemmas.Grind.{flat_map-append}
use Rattle.sccp_base.proofs.Cases.{unless_ok}
use Rattle.sccp_layout.specs.declared.shape.Layout.{Layout}
use Rattle.sccp_layout.specs.declared.parts.Parts.{Parts}
use Rattle.sccp_layout.specs.Parameter.{Parameter}
use Rattle.sccp_layout.specs.Table.{layout_of}
use Rattle.sccp_layout.specs.Places.{width, number_at, pointer_place, pointer, place, after_pointers, names_place, contents, part}
use Rattle.sccp_layout.specs.Joining.{number_octets, spelled_part, spelled_parts, spelled_parameter, spelled_list, pieces, pointer_to}
use Rattle.sccp_layout.specs.Joining.{pointers_to, joined, join_fault, joining, Gives}
use Rattle.sccp_layout.specs.Parts.{Fits, FitsLayout, ParamsAre, HasParts}
use Rattle.sccp_layout.specs.Splitting.{parts_of}
use Rattle.sccp_layout.specs.declared.parts.JoinFault.{JoinFault}
use Rattle.sccp_layout.proofs.Laws.{parts_again, some_part}

abbrev pub whole : List (List ℕ) → List ℕ
whole ps = flat_map (λ p. p) ps

-- Numbers.

pub length-number_octets : (two : Bool) (n : ℕ) → length (number_octets two n) ≡ width two
length-number_octets true n = refl
length-number_octets false n = refl

length-numbers : (two : Bool) (ns : List ℕ) → length (flat_map (number_octets two) ns) ≡ width two * length ns
length-numbers true [] = refl
length-numbers false [] = refl
length-numbers true (n ∷ ns) = omega (arith, length-numbers true ns)
length-numbers false (n ∷ ns) = omega (arith, length-numbers false ns)

behind : (before after : List ℕ) (i : ℕ) → get_or (before ++ after) (length before + i) 0 ≡ get_or after i 0
behind [] after i = ap (λ (k : ℕ). get_or after k 0) (zero-add i)
behind (x ∷ xs) after i = let k : suc (length xs) + i ≡ suc (length xs + i) =
    omega arith in ap (λ (j : ℕ). get_or (x ∷ (xs ++ after)) j 0) k ∙ behind xs after i

pub number_here : (two : Bool) (n : ℕ) (before after : List ℕ)
    → number_at two (before ++ (number_octets two n ++ after)) (length before) ≡ n
number_here true n before after =
    let low : get_or (before ++ (n % 256 ∷ n / 256 ∷ after)) (length before) 0 ≡ n % 256 =
    ap (λ (j : ℕ). get_or (before ++ (n % 256 ∷ n / 256 ∷ after)) j 0) (sym (add-zero (length before)))
    ∙ behind before (n % 256 ∷ n / 256 ∷ after) 0 in
    let high : get_or (before ++ (n % 256 ∷ n / 256 ∷ after)) (length before + 1) 0 ≡ n / 256 =
    behind before (n % 256 ∷ n / 256 ∷ after) 1 in
    rw (low, high) (omega arith)
number_here false n before after =
    let low : get_or (before ++ (n ∷ after)) (length before) 0 ≡ n = ap (λ (j : ℕ). get_or (before ++ (n ∷ after)) j 0)
    (sym (add-zero (length before))) ∙ behind before (n ∷ after) 0 in
    rw low (omega arith)

number_in : (two : Bool) (ns before after : List ℕ) (k : ℕ) → k < length ns
    → number_at two (before ++ (flat_map (number_octets two) ns ++ after)) (length before + width two * k) ≡ get_or ns k 0
number_in two [] before after k lt = absurd (omega arith)
number_in two (n ∷ ns) before after zero lt =
    let b : before ++ ((number_octets two n ++ flat_map (number_octets two) ns) ++ after) ≡ before
    ++ (number_octets two n ++ (flat_map (number_octets two) ns ++ after)) =
    ap (λ (x : List ℕ). before ++ x) (append_assoc (number_octets two n) (flat_map (number_octets two) ns) after) in
    let p : length before + width two * 0 ≡ length before = omega arith in
    rw (b, p) (number_here two n before (flat_map (number_octets two) ns ++ after))
number_in two (n ∷ ns) before after (suc k) lt =
    let b : before ++ ((number_octets two n ++ flat_map (number_octets two) ns) ++ after) ≡ (before ++ number_octets two n)
    ++ (flat_map (number_octets two) ns ++ after) =
    ap (λ (x : List ℕ). before ++ x) (append_assoc (number_octets two n) (flat_map (number_octets two) ns) after)
    ∙ sym (append_assoc before (number_octets two n) (flat_map (number_octets two) ns ++ after)) in
    let p : length before + width two * suc k ≡ length (before ++ number_octets two n) + width two * k = next two in
    rw (b, p) (number_in two ns (before ++ number_octets two n) after k (omega arith))
  where
    next : (t : Bool) → length before + width t * suc k ≡ length (before ++ number_octets t n) + width t * k
    next true = omega (arith, length-append before (number_octets true n))
    next false = omega (arith, length-append before (number_octets false n))

-- Pointers.

length-pointers_to : (l : Layout) (i at : ℕ) (ps : List (List ℕ)) → length (pointers_to l i at ps) ≡ length ps
length-pointers_to l i at [] = refl
length-pointers_to l i at (p ∷ ps) = ap suc (length-pointers_to l (i + 1) (at + length p) ps)

pub pointers_at : (l : Layout) (front : List (List ℕ)) (i at : ℕ) (p : List ℕ) (back : List (List ℕ))
    → get_or (pointers_to l i at (front ++ p ∷ back)) (length front) 0 ≡ pointer_to l (i + length front) (at + length (whole front)) p
pointers_at l [] i at p back = rw (add-zero i, add-zero at) refl
pointers_at l (f ∷ fs) i at p back =
    let e1 : i + 1 + length fs ≡ i + suc (length fs) = omega arith in
    let e2 : at + length f + length (whole fs) ≡ at + length (f ++ whole fs) = omega (arith, length-append f (whole fs)) in
    pointers_at l fs (i + 1) (at + length f) p back ∙ rw (e1, e2) refl

-- Places.

abbrev has_optional : Layout → ℕ
has_optional l = cond l.optional 1 0

pub length-spelled_parts : (l : Layout) (i : ℕ) (parts : List (List ℕ)) → length (spelled_parts l i parts) ≡ length parts
length-spelled_parts l i [] = refl
length-spelled_parts l i (x ∷ xs) = ap suc (length-spelled_parts l (i + 1) xs)

length-pieces : (l : Layout) (p : Parts) → length p.variable ≡ l.variable → length (pieces l p) ≡ l.variable + has_optional l
length-pieces l p e = omega (
  arith,
  e,
  length-spelled_parts l 0 p.variable,
  length-append (spelled_parts l 0 p.variable)
      (cond l.optional (spelled_list p.params ∷ []) []),
  optional_len l.optional,
)
  where
    optional_len : (b : Bool) → length (cond b (spelled_list p.params ∷ []) []) ≡ cond b 1 0
    optional_len true = refl
    optional_len false = refl

pointer_room : (two : Bool) (k n : ℕ) → k < n → cond two 2 1 * k + cond two 1 0 + 1 ≤ cond two 2 1 * n
pointer_room true k n lt = omega arith
pointer_room false k n lt = omega arith

abbrev pub head : Layout → Parts → List ℕ
head l p = (p.code ∷ p.fixed) ++ flat_map (number_octets l.long) (pointers_to l 0 (after_pointers l) (pieces l p))

pub length-head : (l : Layout) (p : Parts) → Fits l p → length (head l p) ≡ after_pointers l
length-head l p fits =
    let n : length (pieces l p) ≡ l.variable + has_optional l = length-pieces l p fits.variable in
    let ns : length (flat_map (number_octets l.long) (pointers_to l 0 (after_pointers l) (pieces l p)))
    ≡ width l.long * (l.variable + has_optional l) =
    length-numbers l.long (pointers_to l 0 (after_pointers l) (pieces l p))
    ∙ ap (λ (k : ℕ). width l.long * k) (length-pointers_to l 0 (after_pointers l) (pieces l p) ∙ n) in
    omega (
      arith,
      ns,
      fits.fixed,
      length-append (p.code ∷ p.fixed)
          (flat_map (number_octets l.long) (pointers_to l 0 (after_pointers l) (pieces l p))),
    )

-- the octets at the place that a pointer names
pub record PointsTo (l : Layout) (b : List ℕ) (k : ℕ) (octets : List ℕ) : Type 0 where
  pub names : IsTrue (names_place l b k)
  pub here : drop (place l b k) b ≡ octets

whole-split : (front : List (List ℕ)) (p : List ℕ) (back : List (List ℕ)) → whole (front ++ p ∷ back) ≡ whole front ++ (p ++ whole back)
whole-split front p back = flat_map-append (λ x. x) front (p ∷ back)

pointer_value : (l : Layout) (p : Parts) (front : List (List ℕ)) (piece : List ℕ) (back : List (List ℕ)) → Fits l p
    → pieces l p ≡ front ++ piece ∷ back
    → pointer l (joined l p) (length front) ≡ pointer_to l (length front) (after_pointers l + length (whole front)) piece
pointer_value l p front piece back fits split =
    let k : ℕ = length front in
    let ns = pointers_to l 0 (after_pointers l) (pieces l p) in
    let n : length (pieces l p) ≡ l.variable + has_optional l = length-pieces l p fits.variable in
    let k_in : k < length ns = omega (
      arith,
      length-pointers_to l 0 (after_pointers l) (pieces l p),
      ap length split,
      length-append front
          (piece ∷ back),
    ) in
    let start : 1 + l.fixed ≡ length (p.code ∷ p.fixed) = omega (arith, fits.fixed) in
    ap (λ (q : ℕ). number_at l.long (joined l p) (q + width l.long * k)) start
    ∙ ap (λ (x : List ℕ). number_at l.long x (length (p.code ∷ p.fixed) + width l.long * k))
    (append_assoc (p.code ∷ p.fixed) (flat_map (number_octets l.long) ns) (whole (pieces l p)))
    ∙ number_in l.long ns (p.code ∷ p.fixed) (whole (pieces l p)) k k_in
    ∙ ap (λ (x : List (List ℕ)). get_or (pointers_to l 0 (after_pointers l) x) k 0) split
    ∙ pointers_at l front 0 (after_pointers l) piece back
    ∙ ap (λ (i : ℕ). pointer_to l i (after_pointers l + length (whole front)) piece) (zero-add k)

names_if : (z a i : Bool) → z ≡ false → a ≡ true → i ≡ true → IsTrue (not z && a && i)
names_if z a i hz ha hi = rw (hz, ha, hi) refl

pub points_to : (l : Layout) (p : Parts) (front : List (List ℕ)) (o : ℕ) (os : List ℕ) (back : List (List ℕ)) → Fits l p
    → pieces l p ≡ front ++ (o ∷ os) ∷ back → PointsTo l (joined l p) (length front) ((o ∷ os) ++ whole back)
points_to l p front o os back fits split =
    let b = joined l p in
    let k : ℕ = length front in
    let at : ℕ = after_pointers l + length (whole front) in
    let e : ℕ = cond l.long 1 0 in
    let n : length (pieces l p) ≡ l.variable + has_optional l = length-pieces l p fits.variable in
    let lt : k < l.variable + has_optional l = omega (arith, n, ap length split, length-append front ((o ∷ os) ∷ back)) in
    let room = pointer_room l.long k (l.variable + has_optional l) lt in
    let ptr : pointer l b k ≡ at - (pointer_place l k + e) = pointer_value l p front (o ∷ os) back fits split in
    let place_is : place l b k ≡ at = omega (arith, ptr, room) in
    let rest : whole (pieces l p) ≡ whole front ++ ((o ∷ os) ++ whole back) = ap whole split ∙ whole-split front (o ∷ os) back in
    let length_b : length b ≡ after_pointers l + (length (whole front) + (suc (length os) + length (whole back))) =
    length-append (head l p) (whole (pieces l p)) ∙ omega (
      arith,
      length-head l p fits,
      ap length rest,
      length-append (whole front)
          ((o ∷ os) ++ whole back),
      length-append (o ∷ os) (whole back),
    ) in
    let nonzero : eqb (pointer l b k) 0 ≡ false = ne_eqb (pointer l b k) 0 (λ z. omega (arith, ptr, room)) in
    let late : leb (after_pointers l) (place l b k) ≡ true = le-leb _ _ (omega (arith, place_is)) in
    let inside : ltb (place l b k) (length b) ≡ true = lt-ltb _ _ (omega (arith, place_is, length_b)) in
    record {
      names = names_if (eqb (pointer l b k) 0) (leb (after_pointers l) (place l b k)) (ltb (place l b k) (length b)) nonzero late inside;
      here = ap (λ (q : ℕ). drop q b) place_is ∙ ap (λ (x : List ℕ). drop at x) (ap (λ (x : List ℕ). head l p ++ x) rest
          ∙ sym (append_assoc (head l p) (whole front) ((o ∷ os) ++ whole back)))
          ∙ drop_at (head l p ++ whole front) ((o ∷ os) ++ whole back) at (length-append (head l p) (whole front)
          ∙ omega (arith, length-head l p fits));
    }

-- Parts.

record Decomposed (xs : List (List ℕ)) (i : ℕ) (x : List ℕ) : Type 0 where
  front : List (List ℕ)
  back : List (List ℕ)
  is : xs ≡ front ++ x ∷ back
  len : length front ≡ i

part_in : (l : Layout) (j : ℕ) (parts : List (List ℕ)) (i : ℕ) (x : List ℕ) → slice_get parts i ≡ Some x
    → Decomposed (spelled_parts l j parts) i (spelled_part (l.long && eqb (j + i) 2) x)
part_in l j [] i x e = absurd cc
part_in l j (y ∷ ys) zero x e =
    let same : y ≡ x = cc in
    let k : j + 0 ≡ j = add-zero j in
    record { front = []; back = spelled_parts l (j + 1) ys; is = rw (k, same) refl; len = refl }
part_in l j (y ∷ ys) (suc i) x e =
    let d = part_in l (j + 1) ys i x e in
    let k : j + suc i ≡ j + 1 + i = omega arith in
    record {
      front = spelled_part (l.long && eqb j 2) y ∷ d.front;
      back = d.back;
      is = rw k (ap (λ (t : List (List ℕ)). spelled_part (l.long && eqb j 2) y ∷ t) d.is);
      len = ap suc d.len;
    }

width_some : (two : Bool) → 0 < width two
width_some true = omega arith
width_some false = omega arith

pub number_drop : (two : Bool) (b : List ℕ) (q : ℕ) → number_at two b q ≡ number_at two (drop q b) 0
number_drop true b q = let k : q + 0 ≡ q = add-zero q in rw (get_or-drop q b 0 0, get_or-drop q b 1 0, k) refl
number_drop false b q = let k : q + 0 ≡ q = add-zero q in rw (get_or-drop q b 0 0, k) refl

-- contents after their length
contents_here : (two : Bool) (b : List ℕ) (q : ℕ) (octets more : List ℕ) → drop q b ≡ spelled_part two octets ++ more
    → contents two b q ≡ Some octets
contents_here two b q octets more e =
    let len : ℕ = length octets in
    let parts : drop q b ≡ number_octets two len ++ (octets ++ more) = e ∙ append_assoc (number_octets two len) octets more in
    let long : length b ≡ q + (width two + (len + length more)) =
    omega (
      arith,
      length-drop q b,
      ap length parts,
      length-append (number_octets two len)
          (octets ++ more),
      length-append octets more,
      length-number_octets two len,
      width_some two,
    ) in
    let start : drop (q + width two) b ≡ octets ++ more = sym (drop-drop (width two) q b) ∙ ap (drop (width two)) parts
    ∙ drop_at (number_octets two len) (octets ++ more) (width two) (length-number_octets two len) in
    let number : number_at two b q ≡ len = number_drop two b q ∙ ap (λ (x : List ℕ). number_at two x 0) parts
    ∙ number_here two len [] (octets ++ more) in
    let fits : leb (q + width two + number_at two b q) (length b) ≡ true = le-leb _ _ (omega (arith, number, long)) in
    let n : q + width two + number_at two b q - (q + width two) ≡ len = omega (arith, number) in
    rw (fits, n, start, take_at octets more len refl) refl

-- The whole.

fixed_here : (l : Layout) (p : Parts) → Fits l p → p.fixed ≡ slice_range (joined l p) 1 (1 + l.fixed)
fixed_here l p fits =
    let n : 1 + l.fixed - 1 ≡ l.fixed = omega arith in
    let ns = flat_map (number_octets l.long) (pointers_to l 0 (after_pointers l) (pieces l p)) in
    let rest : drop 1 (joined l p) ≡ p.fixed ++ (ns ++ whole (pieces l p)) = append_assoc p.fixed ns (whole (pieces l p)) in
    sym (rw (n, rest) (take_at p.fixed (ns ++ whole (pieces l p)) l.fixed fits.fixed))

pub some_octets : (two : Bool) (x more : List ℕ) → (o : ℕ) × (os : List ℕ) × (spelled_part two x ≡ o ∷ os)
some_octets true x more = (length x % 256, length x / 256 ∷ x, refl)
some_octets false x more = (length x, x, refl)

variable_here : (l : Layout) (p : Parts) → Fits l p → (i : ℕ) → i < l.variable
    → IsTrue (names_place l (joined l p) i) × (part l (joined l p) i ≡ slice_get p.variable i)
variable_here l p fits i lt =
    let two : Bool = l.long && eqb i 2 in
    let x = some_part p.variable i (omega (arith, fits.variable)) in
    let zero_i : 0 + i ≡ i = zero-add i in
    let d = part_in l 0 p.variable i x.0 x.1 in
    let o = some_octets two x.0 [] in
    let opt = cond l.optional (spelled_list p.params ∷ []) [] in
    let spelled : spelled_part (l.long && eqb (0 + i) 2) x.0 ≡ o.0 ∷ o.1 = ap (λ (j : ℕ). spelled_part (l.long && eqb j 2) x.0) zero_i
    ∙ o.2 in
    let split : pieces l p ≡ d.front ++ (o.0 ∷ o.1) ∷ (d.back ++ opt) =
    ap (λ (t : List (List ℕ)). t ++ opt) (d.is ∙ ap (λ (y : List ℕ). d.front ++ y ∷ d.back) spelled)
    ∙ append_assoc d.front ((o.0 ∷ o.1) ∷ d.back) opt in
    let to = points_to l p d.front o.0 o.1 (d.back ++ opt) fits split in
    let there : PointsTo l (joined l p) i ((o.0 ∷ o.1) ++ whole (d.back ++ opt)) =
    subst (λ (k : ℕ). PointsTo l (joined l p) k ((o.0 ∷ o.1) ++ whole (d.back ++ opt))) d.len to in (
      there.names,
      contents_here two (joined l p) (place l (joined l p) i) x.0 (whole (d.back ++ opt)) (there.here
          ∙ ap (λ (y : List ℕ). y ++ whole (d.back ++ opt)) (sym o.2)) ∙ sym x.1,
    )

pub with_optional : (l : Layout) (p : Parts) → l.optional ≡ true → pieces l p ≡ spelled_parts l 0 p.variable ++ spelled_list p.params ∷ []
with_optional l p e = ap (λ (o : Bool). spelled_parts l 0 p.variable ++ cond o (spelled_list p.params ∷ []) []) e

optional_here : (l : Layout) (p : Parts) (params : List Parameter) → p.params ≡ params → Fits l p → AllByRecursion (λ q. q.name ≢ 0) params
    → l.optional ≡ true → ParamsAre l (joined l p) params
optional_here l p [] same fits named e =
    let front = spelled_parts l 0 p.variable in
    let split : pieces l p ≡ front ++ [] ∷ [] = with_optional l p e ∙ ap (λ (ps : List Parameter). front ++ spelled_list ps ∷ []) same in
    let k : length front ≡ l.variable = length-spelled_parts l 0 p.variable ∙ fits.variable in
    inl (inr (ap (pointer l (joined l p)) (sym k) ∙ pointer_value l p front [] [] fits split), refl)
optional_here l p (q ∷ qs) same fits named e =
    let front = spelled_parts l 0 p.variable in
    let octets : List ℕ = length q.octets ∷ (q.octets ++ flat_map spelled_parameter qs) ++ 0 ∷ [] in
    let split : pieces l p ≡ front ++ (q.name ∷ octets) ∷ [] = with_optional l p e
    ∙ ap (λ (ps : List Parameter). front ++ spelled_list ps ∷ []) same in
    let k : length front ≡ l.variable = length-spelled_parts l 0 p.variable ∙ fits.variable in
    let to : PointsTo l (joined l p) l.variable ((q.name ∷ octets) ++ []) =
    subst (λ (i : ℕ). PointsTo l (joined l p) i ((q.name ∷ octets) ++ [])) k (points_to l p front q.name octets [] fits split) in
    inr (e, to.names, record { rest = []; spelled = to.here ∙ append-nil (q.name ∷ octets); named = named })

params_here : (l : Layout) (p : Parts) → Fits l p → AllByRecursion (λ q. q.name ≢ 0) p.params → ParamsAre l (joined l p) p.params
params_here l p fits named =
    elim (either l.optional) [
      | inl e ↦ optional_here l p p.params refl fits named e
      | inr e ↦ inl (inl e, fits.params e)
    ]
  where
    either : (b : Bool) → (b ≡ true) ⊎ (b ≡ false)
    either true = inl refl
    either false = inr refl

pub joined_has_parts : (l : Layout) (p : Parts) → layout_of p.code ≡ Some l → Fits l p → AllByRecursion (λ q. q.name ≢ 0) p.params
    → HasParts (joined l p) p
joined_has_parts l p of_type fits named =
    let b = joined l p in
    let opt = cond l.optional (spelled_list p.params ∷ []) [] in
    record {
      layout = l;
      of_type = of_type;
      code = refl;
      pointers = omega (arith, length-append (head l p) (whole (pieces l p)), length-head l p fits);
      fixed = fixed_here l p fits;
      count = fits.variable;
      variable = λ i lt. variable_here l p fits i lt;
      params = params_here l p fits named;
    }

abbrev pub some : Layout → Option Layout
some l = Some l

pub same_layout : (l m : Layout) → some l ≡ some m → l ≡ m
same_layout l m e = cc

-- a message that joining gives has the parts
pub answer_has_parts : (l : Layout) (p : Parts) (r : Result (List ℕ) JoinFault) → layout_of p.code ≡ Some l → FitsLayout p
    → Gives (λ octets. octets) r (joining l p) → OnOk r (AllByRecursion (λ q. q.name ≢ 0) p.params) → IfOk r (λ octets. HasParts octets p)
answer_has_parts l p (Err e) of_type fits given named = tt
answer_has_parts l p (Ok octets) of_type fits given named =
    let same : fits.layout ≡ l = same_layout fits.layout l (sym fits.of_type ∙ of_type) in
    let is : joined l p ≡ octets = (unless_ok (join_fault l p) (joined l p) octets given).1 in
    subst (λ (b : List ℕ). HasParts b p) is (joined_has_parts l p of_type (subst (λ (m : Layout). Fits m p) same fits.fits) named)

-- what is joined is split into the same parts
pub parts_of-joined : (l : Layout) (p : Parts) → layout_of p.code ≡ Some l → Fits l p → AllByRecursion (λ q. q.name ≢ 0) p.params
    → parts_of (joined l p) ≡ Ok p
parts_of-joined l p of_type fits named = parts_again (joined l p) p (joined_has_parts l p of_type fits named)
