-- Writing pointers one after another, as a loop does, and putting the message together.
use Rattle.std.proofs.Common.{◌≡◌, ℕ, suc, ◌+◌, ◌-◌, ◌<◌, ◌≤◌, Bool, true, false, cond, leb, eqb, ◌&&◌, List, [], ◌∷◌, ◌++◌, length, get_or}
use Rattle.std.proofs.Common.{drop, Option, Some, None, Result, Ok, Err, refl, sym, ap, ◌∙◌, append_assoc, add-one, arith}
use Rattle.std.specs.Prelude.{⊤, option_map, IsTrue}
use Rattle.std.specs.Bool.{MatchBool}
use Rattle.std.specs.List.{flat_map}
use Rattle.std.proofs.lemmas.Bool.{le-leb, leb-true}
use Rattle.std.proofs.lemmas.List.{append-nil}
use Rattle.std.proofs.lemmas.Grind.{flat_map-append}
use Rattle.std.proofs.Math.Seq.{drop-cons}
use Rattle.sccp_base.specs.Answers.{unless}
use Rattle.sccp_base.proofs.Cases.{unless_ok}
use Rattle.sccp_layout.specs.declared.shape.Layout.{Layout}
use Rattle.sccp_layout.specs.declared.parts.Parts.{Parts}
use Rattle.sccp_layout.specs.declared.parts.JoinFault.{JoinFault}
use Rattle.sccp_layout.specs.declared.parts.JoinFault.TheVariants.{PointerTooFar}
use Rattle.sccp_layout.specs.Parameter.{Parameter}
use Rattle.sccp_layout.specs.Places.{width, pointer_place, after_pointers}
use Rattle.sccp_layout.specs.Parts.{Fits}
use Rattle.sccp_layout.specs.Joining.{number_octets, spelled_part, spelled_parts, spelled_list, optional_pieces, pieces, pointer_to}
use Rattle.sccp_layout.specs.Joining.{pointers_to, joined, most, first_long, first_far, joining, with_number, with_numbers, are_short}

-- the item at a place, and those after it
pub at_place : {A : Type 0} (xs : List A) (i : ℕ) (x : A) → i < length xs → drop i xs ≡ get_or xs i x ∷ drop (i + 1) xs
at_place xs i x lt = drop-cons xs i x lt ∙ (let n : i + 1 ≡ suc i = add-one i in rw n refl)

-- The length of each part.

pub record Short (l : Layout) (i : ℕ) (x : List ℕ) (more : List (List ℕ)) (params : List Parameter) : Type 0 where
  pub here : length x ≤ most (l.long && eqb i 2)
  pub others : first_long l (i + 1) more params ≡ None

-- a part, if none is too long
pub short_here : (l : Layout) (i : ℕ) (xs : List (List ℕ)) (x : List ℕ) (more : List (List ℕ)) (params : List Parameter) → xs ≡ x ∷ more
    → first_long l i xs params ≡ None → Short l i x more params
short_here l i xs x more params e short =
    by_test (leb (length x) (most (l.long && eqb i 2))) refl (ap (λ (ys : List (List ℕ)). first_long l i ys params) (sym e) ∙ short)
  where
    by_test : (b : Bool) → leb (length x) (most (l.long && eqb i 2)) ≡ b → cond b (first_long l (i + 1) more params) (Some i) ≡ None
        → Short l i x more params
    by_test true t h = record { here = leb-true _ _ t; others = h }
    by_test false t h = absurd cc

short_params : (b : Bool) (i : ℕ) → cond b None (Some i) ≡ None → IsTrue b
short_params true i e = refl
short_params false i e = absurd cc

-- if nothing is too long, neither parts nor parameters are
pub none_long : (l : Layout) (i : ℕ) (xs : List (List ℕ)) (params : List Parameter) → first_long l i xs params ≡ None
    → (first_long l i xs [] ≡ None) × IsTrue (are_short params)
none_long l i [] params h = (refl, short_params (are_short params) i h)
none_long l i (x ∷ xs) params h =
    let s = short_here l i (x ∷ xs) x xs params refl h in
    let others = none_long l (i + 1) xs params s.others in
    (rw (le-leb _ _ s.here) others.0, others.1)

pub most_small : (two : Bool) → most two ≤ 65535
most_small true = omega arith
most_small false = omega arith

pub width_small : (two : Bool) → width two ≤ 2
width_small true = omega arith
width_small false = omega arith

-- The pointers.

length-spelled_part : (two : Bool) (x : List ℕ) → length (spelled_part two x) ≡ length x + width two
length-spelled_part true x = omega arith
length-spelled_part false x = omega arith

pointer_to-spelled_part : (l : Layout) (i place : ℕ) (two : Bool) (x : List ℕ)
    → pointer_to l i place (spelled_part two x) ≡ place - (pointer_place l i + cond l.long 1 0)
pointer_to-spelled_part l i place true x = refl
pointer_to-spelled_part l i place false x = refl

-- the pointer to a part, and those after it
pub pointers_to-part : (l : Layout) (i place next pointer : ℕ) (xs : List (List ℕ)) (x : List ℕ) (more opt : List (List ℕ)) → xs ≡ x ∷ more
    → pointer ≡ place - (pointer_place l i + cond l.long 1 0) → next ≡ place + (length x + width (l.long && eqb i 2))
    → pointers_to l i place (spelled_parts l i xs ++ opt) ≡ pointer ∷ pointers_to l (i + 1) next (spelled_parts l (i + 1) more ++ opt)
pointers_to-part l i place next pointer xs x more opt e p n =
    let two : Bool = l.long && eqb i 2 in
    ap (λ (ys : List (List ℕ)). pointers_to l i place (spelled_parts l i ys ++ opt)) e
    ∙ rw (pointer_to-spelled_part l i place two x, length-spelled_part two x, p, n) refl

pub numbers_go_on : (l : Layout) (i n : ℕ) (octets more ns all : List ℕ) (total : Result (List ℕ) JoinFault) → all ≡ n ∷ ns
    → with_number l i octets n ≡ Ok more → with_numbers l i octets all ≡ total → with_numbers l (i + 1) more ns ≡ total
numbers_go_on l i n octets more ns all total e one so_far =
    let step : with_numbers l i octets (n ∷ ns) ≡ with_numbers l (i + 1) more ns = rw one refl in
    sym step ∙ ap (with_numbers l i octets) (sym e) ∙ so_far

pub numbers_end : (memory : Bool) (l : Layout) (i n : ℕ) (octets ns all : List ℕ) (fault : JoinFault) (total : Result (List ℕ) JoinFault)
    → all ≡ n ∷ ns → MatchBool memory ⊤ (with_number l i octets n ≡ Err fault)
    → with_numbers l i octets all ≡ total → MatchBool memory ⊤ (total ≡ Err fault)
numbers_end true l i n octets ns all fault total e one so_far = tt
numbers_end false l i n octets ns all fault total e one so_far =
    let step : with_numbers l i octets (n ∷ ns) ≡ Err fault = rw one refl in
    sym so_far ∙ ap (with_numbers l i octets) e ∙ step

abbrev ok : List ℕ → Result (List ℕ) JoinFault
ok octets = Ok octets

abbrev numbered : Layout → ℕ → List ℕ → List ℕ → Result (List ℕ) JoinFault
numbered l i octets ns = unless (option_map PointerTooFar (first_far l i ns)) (Ok (octets ++ flat_map (number_octets l.long) ns))

number_by : (b : Bool) (l : Layout) (i : ℕ) (octets : List ℕ) (n : ℕ) (ns : List ℕ) → leb n (most l.long) ≡ b
    → with_numbers l (i + 1) (octets ++ number_octets l.long n) ns ≡ numbered l (i + 1) (octets ++ number_octets l.long n) ns
    → with_numbers l i octets (n ∷ ns) ≡ numbered l i octets (n ∷ ns)
number_by true l i octets n ns t later =
    rw t (later ∙ rw (append_assoc octets (number_octets l.long n) (flat_map (number_octets l.long) ns)) refl)
number_by false l i octets n ns t later = rw t refl

-- pointers are written one by one; if one does not fit, the first such is the fault
pub with_numbers-unless : (l : Layout) (i : ℕ) (octets ns : List ℕ) → with_numbers l i octets ns ≡ numbered l i octets ns
with_numbers-unless l i octets [] = ap ok (sym (append-nil octets))
with_numbers-unless l i octets (n ∷ ns) = number_by (leb n (most l.long)) l i octets n ns refl
    (with_numbers-unless l (i + 1) (octets ++ number_octets l.long n) ns)

-- The whole.

-- the optional part, if parts fit a layout
pub list_is : (l : Layout) (p : Parts) → Fits l p → flat_map (λ piece. piece) (optional_pieces l p.params) ≡ spelled_list p.params
list_is l p fits = by_test l.optional fits.params
  where
    by_test : (o : Bool) → (o ≡ false → p.params ≡ []) → flat_map (λ piece. piece) (cond o (spelled_list p.params ∷ []) [])
        ≡ spelled_list p.params
    by_test true none = append-nil (spelled_list p.params)
    by_test false none = rw (none refl) refl

unless_err : (o : Option JoinFault) (x y : List ℕ) (e : JoinFault) → unless o (ok x) ≡ Err e → unless o (ok y) ≡ Err e
unless_err None x y e h = absurd cc
unless_err (Some f) x y e h = h

abbrev start : Parts → List ℕ
start p = p.code ∷ p.fixed

abbrev pointers : Layout → Parts → List ℕ
pointers l p = pointers_to l 0 (after_pointers l) (pieces l p)

-- if no part is too long, a pointer that does not fit is the fault
pub join_far : (memory : Bool) (l : Layout) (p : Parts) (e : JoinFault) → first_long l 0 p.variable p.params ≡ None
    → MatchBool memory ⊤ (with_numbers l 0 (p.code ∷ p.fixed) (pointers_to l 0 (after_pointers l) (pieces l p)) ≡ Err e)
    → MatchBool memory ⊤ (joining l p ≡ Err e)
join_far true l p e short far = tt
join_far false l p e short far =
    let fault = option_map PointerTooFar (first_far l 0 (pointers l p)) in
    let is : unless fault (Ok (start p ++ flat_map (number_octets l.long) (pointers l p))) ≡ Err e =
    sym (with_numbers-unless l 0 (start p) (pointers l p)) ∙ far in
    rw short (unless_err fault (start p ++ flat_map (number_octets l.long) (pointers l p)) (joined l p) e is)

-- if no part is too long and all pointers fit, the message is what is put together
pub join_ok : (l : Layout) (p : Parts) (w octets : List ℕ) → first_long l 0 p.variable p.params ≡ None → Fits l p
    → with_numbers l 0 (p.code ∷ p.fixed) (pointers_to l 0 (after_pointers l) (pieces l p)) ≡ Ok w
    → octets ≡ (w ++ flat_map (λ piece. piece) (spelled_parts l 0 p.variable)) ++ spelled_list p.params → joining l p ≡ Ok octets
join_ok l p w octets short fits near e =
    let fault = option_map PointerTooFar (first_far l 0 (pointers l p)) in
    let front : List ℕ = start p ++ flat_map (number_octets l.long) (pointers l p) in
    let none = unless_ok fault front w (sym (with_numbers-unless l 0 (start p) (pointers l p)) ∙ near) in
    let parts : flat_map (λ piece. piece) (pieces l p) ≡ flat_map (λ piece. piece) (spelled_parts l 0 p.variable) ++ spelled_list p.params =
    flat_map-append (λ piece. piece) (spelled_parts l 0 p.variable) (optional_pieces l p.params)
    ∙ ap (λ (x : List ℕ). flat_map (λ piece. piece) (spelled_parts l 0 p.variable) ++ x) (list_is l p fits) in
    let whole : joined l p ≡ octets =
    ap (λ (x : List ℕ). front ++ x) parts
    ∙ ap (λ (x : List ℕ). x ++ (flat_map (λ piece. piece) (spelled_parts l 0 p.variable) ++ spelled_list p.params)) none.1
    ∙ sym (append_assoc w (flat_map (λ piece. piece) (spelled_parts l 0 p.variable)) (spelled_list p.params)) ∙ sym e in
    rw (short, none.0) (ap ok whole)
