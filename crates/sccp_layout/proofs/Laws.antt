-- A message that is split has those parts, and one that has them is split into them.
use Rattle.std.proofs.Common.{◌≡◌, ℕ, zero, suc, ◌+◌, ◌-◌, ◌<◌, ◌≤◌, Bool, true, false, cond, not, ltb, leb, eqb, ◌||◌, ◌&&◌, List, [], ◌∷◌}
use Rattle.std.proofs.Common.{length, drop, Option, Some, None, Result, Ok, Err, refl, sym, ap, subst, ◌∙◌, zero-add, arith, inl, inr, ◌⊎◌}
use Rattle.std.specs.Prelude.{slice_range, slice_get, IfOk}
use Rattle.std.specs.Option.{ok_or}
use Rattle.std.specs.List.{range_with_len, flat_map}
use Rattle.std.proofs.lemmas.Bool.{ltb-false, le-ltb, eqb-true}
use Rattle.std.proofs.lemmas.List.{length-append, length-drop, length-take}
use Rattle.std.proofs.lemmas.List.FromFn.{length-range_with_len}
use Rattle.sccp_base.specs.Answers.{◌>>=◌, all_ok}
use Rattle.sccp_base.proofs.AllOk.{bind_ok, guard_ok, length-all_ok, all_ok_at, all_ok_from}
use Rattle.sccp_layout.specs.declared.shape.Layout.{Layout}
use Rattle.sccp_layout.specs.declared.parts.Parts.{Parts}
use Rattle.sccp_layout.specs.declared.parts.SplitFault.{SplitFault}
use Rattle.sccp_layout.specs.declared.parts.SplitFault.TheVariants.{Short, BadPointer, BadPart, BadOptional}
use Rattle.sccp_layout.specs.Parameter.{Parameter}
use Rattle.sccp_layout.specs.Table.{layout_of}
use Rattle.sccp_layout.specs.Places.{pointer, place, after_pointers, names_place, part, listed}
use Rattle.sccp_layout.specs.Splitting.{part_at, params_at, parts_by, parts_if, parts_of, Gives}
use Rattle.sccp_layout.specs.Joining.{spelled_parameter}
use Rattle.sccp_layout.specs.Parts.{FitsLayout, BeginsWithList, ParamsAre, HasParts}
use Rattle.sccp_layout.proofs.Lists.{list_again, list_takes}

-- One part.

part_of : {X : Type 0} (names : Bool) (o : Option X) (bad_part bad_pointer : SplitFault) (x : X)
    → cond names (ok_or o bad_part) (Err bad_pointer) ≡ Ok x → (names ≡ true) × (o ≡ Some x)
part_of true (Some y) d e x h = (refl, cc)
part_of true None d e x h = absurd cc
part_of false o d e x h = absurd cc

part_again : {X : Type 0} (names : Bool) (o : Option X) (bad_part bad_pointer : SplitFault) (x : X) → names ≡ true → o ≡ Some x
    → cond names (ok_or o bad_part) (Err bad_pointer) ≡ Ok x
part_again names o d e x t s = rw (t, s) refl

-- The optional part.

params_cases : (none names : Bool) (o : Option (List Parameter)) (bad_list bad_pointer : SplitFault) (ps : List Parameter)
    → cond none (Ok []) (cond names (ok_or o bad_list) (Err bad_pointer)) ≡ Ok ps
    → ((none ≡ true) × (ps ≡ [])) ⊎ ((none ≡ false) × (names ≡ true) × (o ≡ Some ps))
params_cases true names o d e ps h = inl (refl, cc)
params_cases false names o d e ps h = let p = part_of names o d e ps h in inr (refl, p.0, p.1)

none_is : (optional : Bool) (pointer : ℕ) → (not optional || eqb pointer 0) ≡ true → (optional ≡ false) ⊎ (pointer ≡ 0)
none_is true pointer h = inr (eqb-true pointer 0 h)
none_is false pointer h = inl refl

some_is : (optional : Bool) (pointer : ℕ) → (not optional || eqb pointer 0) ≡ false → optional ≡ true
some_is true pointer h = refl
some_is false pointer h = absurd cc

pub params_take : (l : Layout) (b : List ℕ) (ps : List Parameter) → params_at l b ≡ Ok ps → ParamsAre l b ps
params_take l b ps e =
    let i : ℕ = l.variable in
    elim (params_cases (not l.optional || eqb (pointer l b i) 0) (names_place l b i) (listed b (place l b i)) BadOptional
    (BadPointer i) ps e) [
      | inl w ↦ inl (none_is l.optional (pointer l b i) w.0, w.1)
      | inr w ↦ inr (some_is l.optional (pointer l b i) w.0, w.1, list_takes (length b) b (place l b i) ps w.2)
    ]

or_true : (b : Bool) → (b || true) ≡ true
or_true true = refl
or_true false = refl

none_false : (o z : Bool) → o ≡ true → z ≡ false → (not o || z) ≡ false
none_false o z t f = rw (t, f) refl

pub first_true : (a b c : Bool) → (not a && b && c) ≡ true → a ≡ false
first_true true b c h = absurd cc
first_true false b c h = refl

length-spelled : (ps : List Parameter) → length ps ≤ length (flat_map spelled_parameter ps)
length-spelled [] = omega arith
length-spelled (p ∷ ps) = omega (arith, length-spelled ps, length-append p.octets (flat_map spelled_parameter ps))

few : (b : List ℕ) (p : ℕ) (ps : List Parameter) → (h : BeginsWithList (drop p b) ps) → length ps < length b
few b p ps h = omega (
  arith,
  length-spelled ps,
  length-drop p b,
  ap length h.spelled,
  length-append (flat_map spelled_parameter ps)
      (0 ∷ h.rest),
)

pub params_again : (l : Layout) (b : List ℕ) (ps : List Parameter) → ParamsAre l b ps → params_at l b ≡ Ok ps
params_again l b ps (inl (inl without, none)) = rw (without, none) refl
params_again l b ps (inl (inr zero_pointer, none)) = rw (zero_pointer, or_true (not l.optional), none) refl
params_again l b ps (inr (optional, names, list)) =
    let i : ℕ = l.variable in
    let some_pointer : eqb (pointer l b i) 0 ≡ false = first_true (eqb (pointer l b i) 0) (leb (after_pointers l) (place l b i))
    (ltb (place l b i) (length b)) names in
    let read : listed b (place l b i) ≡ Some ps = list_again ps (length b) b (place l b i) list.rest
    (few b (place l b i) ps list) list.spelled list.named in
    let there : (not l.optional || eqb (pointer l b i) 0) ≡ false = none_false l.optional (eqb (pointer l b i) 0) optional some_pointer in
    rw there (part_again (names_place l b i) (listed b (place l b i)) BadOptional (BadPointer i) ps names read)

-- All parts.

abbrev made : ℕ → Layout → List ℕ → List (List ℕ) → List Parameter → Parts
made code l b variable params = record { code = code; fixed = slice_range b 1 (1 + l.fixed); variable = variable; params = params }

abbrev done : Parts → Result Parts SplitFault
done p = Ok p

done_is : (p q : Parts) → done p ≡ done q → p ≡ q
done_is p q e = cc

by_takes : (code : ℕ) (l : Layout) (rest : List ℕ) (p : Parts) → layout_of code ≡ Some l → parts_by code l (code ∷ rest) ≡ Ok p
    → HasParts (code ∷ rest) p
unfolding parts_by
by_takes code l rest p of_type e =
    let b = code ∷ rest in
    let g = guard_ok (ltb (length b) (after_pointers l)) Short
    (all_ok (part_at l b) (range_with_len 0 l.variable) >>= λ variable. params_at l b >>= λ params. Ok
    (made code l b variable params)) p e in
    let v = bind_ok (all_ok (part_at l b) (range_with_len 0 l.variable))
    (λ variable. params_at l b >>= λ params. Ok (made code l b variable params)) p g.1 in
    let o = bind_ok (params_at l b) (λ params. Ok (made code l b v.0 params)) p v.2 in
    subst (HasParts b) (done_is (made code l b v.0 o.0) p o.2) (record {
      layout = l;
      of_type = of_type;
      code = refl;
      pointers = ltb-false _ _ g.0;
      fixed = refl;
      count = length-all_ok (part_at l b) (range_with_len 0 l.variable) v.0 v.1 ∙ length-range_with_len 0 l.variable;
      variable = λ i lt.
          let t = all_ok_at (part_at l b) 0 l.variable v.0 v.1 i lt in
          let here : part_at l b i ≡ Ok t.0 = ap (part_at l b) (sym (zero-add i)) ∙ t.2 in
          let q = part_of (names_place l b i) (part l b i) (BadPart i) (BadPointer i) t.0 here in
          (q.0, q.1 ∙ sym t.1);
      params = params_take l b o.0 o.1;
    })

if_layout : (o : Option Layout) (code : ℕ) (b : List ℕ) (p : Parts) → parts_if o code b ≡ Ok p
    → (l : Layout) × (o ≡ Some l) × (parts_by code l b ≡ Ok p)
if_layout None code b p e = absurd cc
if_layout (Some l) code b p e = (l, refl, e)

pub parts_take : (b : List ℕ) (p : Parts) → parts_of b ≡ Ok p → HasParts b p
parts_take [] p e = absurd cc
parts_take (code ∷ rest) p e = let l = if_layout (layout_of code) code (code ∷ rest) p e in by_takes code l.0 rest p l.1 l.2

pub some_part : (parts : List (List ℕ)) (i : ℕ) → i < length parts → (x : List ℕ) × (slice_get parts i ≡ Some x)
some_part [] i lt = absurd (omega arith)
some_part (x ∷ xs) zero lt = (x, refl)
some_part (x ∷ xs) (suc i) lt = some_part xs i (omega arith)

pub parts_again : (b : List ℕ) (p : Parts) → HasParts b p → parts_of b ≡ Ok p
unfolding parts_by
parts_again [] p h = absurd (let none = h.code in cc)
parts_again (code ∷ rest) p h =
    let b = code ∷ rest in
    let l = h.layout in
    let same : code ≡ p.code = cc (h.code) in
    let of_type : layout_of code ≡ Some l = ap layout_of same ∙ h.of_type in
    let variable : all_ok (part_at l b) (range_with_len 0 l.variable) ≡ Ok p.variable =
    all_ok_from (part_at l b) 0 l.variable p.variable h.count (λ i lt.
    let v = h.variable i lt in
    let x = some_part p.variable i (omega (arith, h.count)) in (
      x.0,
      x.1,
      ap (part_at l b) (zero-add i) ∙ part_again (names_place l b i) (part l b i) (BadPart i) (BadPointer i) x.0 v.0 (v.1
          ∙ x.1),
    )) in
    let params : params_at l b ≡ Ok p.params = params_again l b p.params h.params in
    let long : ltb (length b) (after_pointers l) ≡ false = le-ltb _ _ h.pointers in
    rw (of_type, long, variable, params, same, ← h.fixed) refl

no_params : (l : Layout) (b : List ℕ) (ps : List Parameter) → l.optional ≡ false → ParamsAre l b ps → ps ≡ []
no_params l b ps none (inl w) = w.1
no_params l b ps none (inr w) = absurd (let some = w.0 in cc)

fits : (b : List ℕ) (p : Parts) → HasParts b p → FitsLayout p
fits b p h =
    let l = h.layout in
    record {
      layout = l;
      of_type = h.of_type;
      fits = record {
        fixed = ap length h.fixed ∙ (omega (arith, h.pointers, length-take (1 + l.fixed - 1) (drop 1 b), length-drop 1 b));
        variable = h.count;
        params = λ none. no_params l b p.params none h.params;
      };
    }

pub answer : (b : List ℕ) (r : Result Parts SplitFault) → Gives (λ p. p) r (parts_of b)
    → IfOk r (λ p. HasParts b p) × IfOk r (λ p. FitsLayout p)
answer b (Ok p) given = let h = parts_take b p given in (h, fits b p h)
answer b (Err e) given = (tt, tt)
