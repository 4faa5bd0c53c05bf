-- places of classes in a table
use Rattle.std.specs.Prelude.{ℕ, ◌≡◌, ◌<◌, Bool, true, false, cond, List, [], ◌∷◌, ◌++◌, length, Some, None, slice_get, refl}
use Rattle.std.specs.Ordering.{is_eq}
use Rattle.std.proofs.Common.{zero, suc, sym, ◌∙◌, ap, arith}
use Rattle.std.proofs.lemmas.List.{append_assoc, append-nil}
use Rattle.indexmap.specs.IndexMap.{insert_entry}
use Rattle.plan_classes.specs.Titles.{Titles}
use Rattle.plan_classes.proofs.Ordered.{same_class}
use Rattle.plan_check.specs.Ranking.{rank_in, class_cmp, classes_in}
use Rattle.plan_check.proofs.Orders.{own_class}
use Rattle.plan_unused.specs.Walks.{KeepsPlaces}

-- a class that has a rank has a place
pub place_of : (es : List (Titles × ℕ)) (c : Titles) (r : ℕ) → rank_in es c ≡ Some r
    → (place : ℕ) × (slice_get (classes_in es) place ≡ Some c)
place_of [] c r h = let clash : None ≡ Some r = h in absurd (cc)
place_of (e ∷ es) c r h =
    elim (is_eq (class_cmp c e.0)) as (λ b. is_eq (class_cmp c e.0) ≡ b → cond b (Some e.1) (rank_in es c) ≡ Some r
    → (place : ℕ) × (slice_get (classes_in (e ∷ es)) place ≡ Some c)) [
      | true ↦ λ same k. (0, ap Some (sym (same_class c e.0 same)))
      | false ↦ λ other k. let rest = place_of es c r k in (suc rest.0, rest.1)
    ] refl h

-- and the other way round
pub ranked_at : (es : List (Titles × ℕ)) (place : ℕ) (c : Titles) → slice_get (classes_in es) place ≡ Some c
    → (r : ℕ) × (rank_in es c ≡ Some r)
ranked_at [] zero c h = absurd (cc)
ranked_at [] (suc place) c h = absurd (cc)
ranked_at (e ∷ es) zero c h =
    let same : e.0 ≡ c = cc in
    (e.1, ap (λ (b : Bool). cond b (Some e.1) (rank_in es c)) (ap (λ (d : Titles). is_eq (class_cmp c d)) same ∙ own_class c))
ranked_at (e ∷ es) (suc place) c h =
    let rest = ranked_at es place c h in
    elim (is_eq (class_cmp c e.0)) as (λ b. (r : ℕ) × (cond b (Some e.1) (rank_in es c) ≡ Some r)) [
      | true ↦ (e.1, refl)
      | false ↦ rest
    ]

-- a class keeps its place
pub at_later : (xs ys : List Titles) (place : ℕ) (c : Titles) → slice_get xs place ≡ Some c → slice_get (xs ++ ys) place ≡ Some c
at_later [] ys zero c h = absurd (cc)
at_later [] ys (suc place) c h = absurd (cc)
at_later (x ∷ xs) ys zero c h = h
at_later (x ∷ xs) ys (suc place) c h = at_later xs ys place c h

-- so the class of one of its places had it before
pub at_earlier : (xs ys : List Titles) (place : ℕ) (c : Titles) → place < length xs → slice_get (xs ++ ys) place ≡ Some c
    → slice_get xs place ≡ Some c
at_earlier [] ys place c lt h = absurd (omega (arith, lt))
at_earlier (x ∷ xs) ys zero c lt h = h
at_earlier (x ∷ xs) ys (suc place) c lt h = at_earlier xs ys place c (omega (arith, lt)) h

-- a new class takes the last place
pub put_last : (test : Titles → Titles → Bool) (es : List (Titles × ℕ)) (c : Titles) (r : ℕ) → KeepsPlaces es (insert_entry test es c r)
put_last test [] c r = (c ∷ [], refl)
put_last test (e ∷ es) c r =
    elim (test c e.0) as (λ b. KeepsPlaces (e ∷ es) (cond b ((e.0, r) ∷ es) (e ∷ insert_entry test es c r))) [
      | true ↦ ([], ap (λ (cs : List Titles). e.0 ∷ cs) (sym (append-nil (classes_in es))))
      | false ↦ let rest = put_last test es c r in (rest.0, ap (λ (cs : List Titles). e.0 ∷ cs) rest.1)
    ]

pub same_places : (es : List (Titles × ℕ)) → KeepsPlaces es es
same_places es = ([], sym (append-nil (classes_in es)))

pub more_places : (a b c : List (Titles × ℕ)) → KeepsPlaces a b → KeepsPlaces b c → KeepsPlaces a c
more_places a b c h k =
    (h.0 ++ k.0, k.1 ∙ (ap (λ (cs : List Titles). cs ++ k.0) h.1 ∙ append_assoc (classes_in a) h.0 k.0))
