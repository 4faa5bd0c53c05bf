-- The plan of each number reaches few classes: its start and, at each relay, the titles of each first digit.
use Rattle.std.proofs.Common.{◌≡◌, ◌≢◌, ℕ, zero, suc, ◌+◌, ◌*◌, ◌<◌, ◌≤◌, Bool, true, false, List, [], ◌∷◌, map, length, Option}
use Rattle.std.proofs.Common.{Some, None, refl, sym, ◌∙◌, ap, subst, arith, get_or}
use Rattle.std.specs.Prelude.{nat_lt, replicate, if◌then◌else◌, ◌&&◌, ◌==◌, slice_get, IsSomeAnd}
use Rattle.std.specs.Option.{option_and_then, option_map_or}
use Rattle.std.specs.List.{All, AllPairs, Contains, list_any, list_all, IsDistinct}
use Rattle.std.proofs.lemmas.Bool.{eqb-true, ltb-true}
use Rattle.std.proofs.lemmas.Bool.Decides.{Decides-eqb}
use Rattle.std.proofs.lemmas.List.{get_or-map, length-map}
use Rattle.std.proofs.lemmas.List.Folds.{Any-from_list_any}
use Rattle.std.proofs.lemmas.List.FromFn.{get_or-map-range_with_len}
use Rattle.std.proofs.lemmas.List.Sums.{AllPass-from_list_all}
use Rattle.std.proofs.lemmas.Map.Made.{IsDistinct-from_AllPairs}
use Rattle.std.proofs.lemmas.Map.Steps.{length-le_from_distinct_below}
use Rattle.std.proofs.Math.Dec.{eqb}
use Rattle.plan_rules.specs.Rule.{Rule}
use Rattle.plan_classes.specs.Classes.{Reachable, Start, Part, Onward, ReachesAtLeast, Decided, start_of, class_row, HasImage, image_at}
use Rattle.plan_classes.specs.Titles.{Titles, titles, IsMember, spot_of, parts_of, extended}
use Rattle.plan_classes.specs.declared.leads.Image.TheVariants.{Next, Ends, NotEquipped}
use Rattle.plan_model.specs.RowFor.{row_for, row_of as row_in}
use Rattle.plan_model.specs.declared.node.Node.{Node}
use Rattle.made_load.specs.Relays.{selector, end_point, next_relay, row_of, relay_point, relay, cover, load_plan}
use Rattle.made_load.proofs.Safe.{at, node_at, place_of, row_at, later, targets_if}

-- ---- the classes

abbrev first_class : Titles
first_class = titles 0 0 selector 6 [] 10 10

abbrev class_at : ℕ → ℕ → Titles
class_at i d = titles 0 i selector 6 (d ∷ []) 9 9

data IsMade (c : Titles) : Type 0 where
  first : c ≡ first_class → IsMade c
  inner : (i d : ℕ) → i < 8 → d < 10 → c ≡ class_at i d → IsMade c

-- ---- there are few of them

abbrev code_of : List ℕ → ℕ
code_of [] = 10
code_of (d ∷ ds) = d

abbrev code : Titles → ℕ
code c = 11 * c.node + code_of c.known

same_code : (a b : Titles) → IsMade a → IsMade b → code a ≡ code b → a ≡ b
same_code a b (first e) (first f) is = e ∙ sym f
same_code a b (first e) (inner i d il dl f) is = absurd (omega (arith, is, ap code e, ap code f, dl))
same_code a b (inner i d il dl e) (first f) is = absurd (omega (arith, is, ap code e, ap code f, dl))
same_code a b (inner i d il dl e) (inner j k jl kl f) is =
    let node : i ≡ j = omega (arith, is, ap code e, ap code f, dl, kl) in
    let digit : d ≡ k = omega (arith, is, ap code e, ap code f, dl, kl) in
    e ∙ ap (λ n. class_at n d) node ∙ ap (class_at j) digit ∙ sym f

low_code : (c : Titles) → IsMade c → code c < 88
low_code c (first e) = omega (arith, ap code e)
low_code c (inner i d il dl e) = omega (arith, ap code e, il, dl)

few : (cs : List Titles) → AllPairs (λ a b. a ≢ b) cs → All IsMade cs → length cs ≤ 88
few cs apart made = omega (arith, length-map cs code, length-le_from_distinct_below (map code cs) 88 distinct below) where
  code_at : (k x : ℕ) → k < length cs → get_or (map code cs) k x ≡ code (get_or cs k first_class)
  code_at k x lt = get_or-map code cs k first_class x lt

  distinct : IsDistinct eqb (map code cs)
  distinct = IsDistinct-from_AllPairs Decides-eqb (map code cs) (λ i j d lt in' same.
      let jl : j < length cs = omega (arith, in', length-map cs code) in
      let il : i < length cs = omega (arith, lt, jl) in
      apart i j first_class lt jl (same_code (get_or cs i first_class) (get_or cs j first_class) (made i first_class il)
      (made j first_class jl)
      (sym (code_at i d il) ∙ same ∙ code_at j d jl)))

  below : (q : ℕ) → list_any (eqb q) (map code cs) ≡ true → q < 88
  below q e =
      let h = Any-from_list_any (eqb q) (map code cs) e in
      let kl : h.0 < length cs = omega (arith, h.2, length-map cs code) in
      omega (arith, eqb-true q h.1 h.4, h.3, code_at h.0 h.1 kl, low_code (get_or cs h.0 first_class) (made h.0 first_class kl))

-- ---- each reached class is one of them

-- all titles of a relay with one first digit have one row
row_of_all : (number i d : ℕ) (rest : List ℕ) → i < 8 → d < 10 → row_in (load_plan number) (at i d rest) ≡ Some (row_of number i d)
unfolding load_plan
row_of_all number i d rest il dl = ap (option_and_then (λ node. row_for node (at i d rest))) (node_at number i il)
    ∙ row_at number i d rest dl

decided : (number i d : ℕ) → i < 8 → d < 10 → Decided (load_plan number) (class_at i d)
decided number i d il dl = λ x y is also.
    of x is ∙ sym (of y also)
  where
    of : (x : List ℕ) → IsMember (class_at i d) x → row_in (load_plan number) (spot_of (class_at i d) x) ≡ Some (row_of number i d)
    of x is = ap (λ ds. row_in (load_plan number) (spot_of (class_at i d) ds)) is.whole ∙ row_of_all number i d is.rest il dl

-- but not all titles of the cover
undecided : (number : ℕ) → Decided (load_plan number) first_class → ⊥
undecided number same =
    let one : Some (row_of number 0 0) ≡ Some (row_of number 0 1) =
    sym (row_of_all number 0 0 (replicate 9 0) (omega arith) (omega arith))
    ∙ same (replicate 10 0) (1 ∷ replicate 9 0) (member (replicate 10 0) refl tens) (member (1 ∷ replicate 9 0) refl others)
    ∙ row_of_all number 0 1 (replicate 9 0) (omega arith) (omega arith) in
    let digit : digit_of (Some (row_of number 0 0)) ≡ digit_of (Some (row_of number 0 1)) = ap digit_of one in
    absurd (omega (arith, digit))
  where
    digit_of : Option Rule → ℕ
    digit_of (Some r) = get_or r.prefix 0 0
    digit_of None = 0

    small : (ds : List ℕ) → list_all (λ d. nat_lt d 10) ds ≡ true → All (λ d. d < 10) ds
    small ds e = λ k d lt. ltb-true (get_or ds k d) 10 (AllPass-from_list_all (λ d. nat_lt d 10) ds e k d lt)

    tens : All (λ d. d < 10) (replicate 10 0)
    tens = small (replicate 10 0) refl

    others : All (λ d. d < 10) (1 ∷ replicate 9 0)
    others = small (1 ∷ replicate 9 0) refl

    member : (ds : List ℕ) → length ds ≡ 10 → All (λ d. d < 10) ds → IsMember first_class ds
    member ds ten low = record { rest = ds; whole = refl; decimal = low; least = omega (arith, ten); most = omega (arith, ten) }

-- what a class of one first digit leads on to
next_made : (number i d place : ℕ) (next : Titles) → i < 8 → d < 10 → HasImage (load_plan number) (class_at i d) place (Next next)
    → IsMade next
unfolding load_plan
next_made number i d place next il dl has = by_row (nat_lt i 7) refl there where
  next_in : {a b : Titles} → Next a ≡ Next b → a ≡ b
  next_in e = cc

  not_next : (b : Bool) → Next next ≡ (if b && true then NotEquipped else Ends (end_point d) 6) → ⊥
  not_next true e = cc
  not_next false e = cc

  images : Option Node → Option Rule → Type 0
  images n r = IsSomeAnd n (λ node. IsSomeAnd (slice_get (option_map_or (λ (x : Rule). x.targets) r []) place)
      (λ t. Next next ≡ image_at (load_plan number) node (class_at i d) t))

  there : IsSomeAnd (slice_get (targets_if (nat_lt i 7) number i d) place)
      (λ t. Next next ≡ image_at (load_plan number) (relay number i) (class_at i d) t)
  there = subst (λ r. images (Some (relay number i)) r) (row_of_all number i d (replicate 9 0) il dl)
      (subst (λ n. images n (class_row (load_plan number) (class_at i d))) (node_at number i il) has)

  by_row : (hands : Bool) → nat_lt i 7 ≡ hands → IsSomeAnd (slice_get (targets_if hands number i d) place)
      (λ t. Next next ≡ image_at (load_plan number) (relay number i) (class_at i d) t) → IsMade next
  by_row true e h = by place h where
    by : (p : ℕ) → IsSomeAnd (slice_get (targets_if true number i d) p)
        (λ t. Next next ≡ image_at (load_plan number) (relay number i) (class_at i d) t) → IsMade next
    by zero h = inner (next_relay number i d) d (later number i d (ltb-true i 7 e)).1 dl
        (next_in (h ∙ ap (λ k. Next (class_at k d)) (place_of number (next_relay number i d) (later number i d (ltb-true i 7 e)).1)))
    by (suc zero) h = absurd (not_next (end_point d == relay_point i) h)
    by (suc (suc p)) h = absurd h
  by_row false e h = by place h where
    by : (p : ℕ) → IsSomeAnd (slice_get (targets_if false number i d) p)
        (λ t. Next next ≡ image_at (load_plan number) (relay number i) (class_at i d) t) → IsMade next
    by zero h = absurd (not_next (end_point d == relay_point i) h)
    by (suc p) h = absurd h

-- the titles of the cover with each first digit
part_made : (part : Titles) → Contains (parts_of first_class) part → IsMade part
part_made part (k, lt, is) = inner 0 k (omega arith) (omega (arith, lt))
    (sym is ∙ get_or-map-range_with_len (extended first_class) 0 10 k k part (omega (arith, lt)) (omega arith))

made : (number depth : ℕ) (c : Titles) → Reachable (load_plan number) depth c → IsMade c
unfolding load_plan
made number depth c (Start zero x is) = first (ap (start_of 0) (some_in is)) where
  some_in : Some cover ≡ Some x → x ≡ cover
  some_in e = cc
made number depth c (Start (suc k) x is) = cc
made number depth c (Part d above part reached unknown contains) = by (made number depth above reached) where
  by : IsMade above → IsMade c
  by (first e) = part_made c (subst (λ a. Contains (parts_of a) c) e contains)
  by (inner i k il kl e) = absurd (unknown (subst (Decided (load_plan number)) (sym e) (decided number i k il kl)))
made number depth c (Onward d above next place reached few known reaches image) = by (made number d above reached) where
  by : IsMade above → IsMade c
  by (first e) = absurd (undecided number (subst (Decided (load_plan number)) e known))
  by (inner i k il kl e) = next_made number i k place c il kl (subst (λ a. HasImage (load_plan number) a place (Next c)) e image)

pub narrow : (number count : ℕ) → 88 < count → ReachesAtLeast (load_plan number) count → ⊥
narrow number count more h = omega (arith, more, h.1, few h.0 h.2 (λ k d lt. let r = h.3 k d lt in made number r.0 (get_or h.0 k d) r.1))
