-- What a list holds after an insert, and how its elements are related.
use Rattle.std.specs.Prelude.{◌≡◌, ℕ, ◌+◌, ◌<◌, ◌≤◌, ◌⊎◌, List, [], ◌∷◌, length, refl, take, drop}
use Rattle.std.specs.List.{AllPairs, AllWithin, insert}
use Rattle.std.proofs.Common.{zero, suc, sym, ◌∙◌, ap, subst, arith, get_or, ⊎_elim, inl, inr, length-append, ◌-◌}
use Rattle.std.proofs.lemmas.Bool.{cases_lt}
use Rattle.std.proofs.lemmas.List.{length-take, length-drop}
use Rattle.std.proofs.lemmas.List.Edits.{get_or-insert_at, get_or-insert_below, get_or-insert_above}
use Rattle.sccp_base.proofs.Among.{Among}

abbrev IsBelow : {X : Type 0} → List X → X → ℕ → ℕ → X → Type 0
IsBelow xs x place k d = (k < place) × (get_or (insert xs place x) k d ≡ get_or xs k d)

abbrev IsHere : {X : Type 0} → List X → X → ℕ → ℕ → X → Type 0
IsHere xs x place k d = (k ≡ place) × (get_or (insert xs place x) k d ≡ x)

abbrev IsAbove : {X : Type 0} → List X → X → ℕ → ℕ → X → Type 0
IsAbove xs x place k d = (l : ℕ) × (k ≡ l + 1) × (place ≤ l) × (get_or (insert xs place x) k d ≡ get_or xs l d)

at_insert : {X : Type 0} (xs : List X) (x : X) (place k : ℕ) (d : X) → place ≤ length xs
    → IsBelow xs x place k d ⊎ (IsHere xs x place k d ⊎ IsAbove xs x place k d)
at_insert xs x place k d inside =
    ⊎_elim
    (λ (lt : k < place). inl (lt, get_or-insert_below xs place x d k lt inside))
    (λ (ge : place ≤ k). ⊎_elim
    (λ (gt : place < k).
    let e : k ≡ (k - 1) + 1 = omega arith in
    let le : place ≤ k - 1 = omega arith in
    inr (inr (k - 1, e, le, ap (λ (n : ℕ). get_or (insert xs place x) n d) e ∙ get_or-insert_above xs place x d (k - 1) le inside)))
    (λ (le : k ≤ place).
    let e : k ≡ place = omega arith in
    inr (inl (e, ap (λ (n : ℕ). get_or (insert xs place x) n d) e ∙ get_or-insert_at xs place x d inside)))
    (cases_lt place k))
    (cases_lt k place)

-- what is equal to two elements is related as they are
pub related : {X : Type 0} (R : X → X → Type 0) (a b x y : X) → a ≡ x → b ≡ y → R x y → R a b
related R a b x y p q h = subst (λ m. R m b) (sym p) (subst (λ m. R x m) (sym q) h)

-- If each element is related to those after it, this still holds after an insert. The place must part the elements that are
-- related to the new one from those to which the new one is related.
pub pairs_insert : {X : Type 0} (R : X → X → Type 0) (xs : List X) (x : X) (place : ℕ) → AllPairs R xs → place ≤ length xs
    → AllWithin (λ y. R y x) xs 0 place → AllWithin (λ y. R x y) xs place (length xs) → AllPairs R (insert xs place x)
pairs_insert R xs x place pairs inside below above i j d lt bound =
    let size : length (insert xs place x) ≡ length xs + 1 =
    omega (arith, length-append (take place xs) (x ∷ drop place xs), length-take place xs, length-drop place xs, inside) in
    ⊎_elim
    (λ (p : IsBelow xs x place i d). ⊎_elim
    (λ (q : IsBelow xs x place j d). related R _ _ _ _ p.1 q.1 (pairs i j d lt (omega (arith, inside, q.0))))
    (λ o. ⊎_elim
    (λ (q : IsHere xs x place j d). related R _ _ _ _ p.1 q.1 (below i d (omega arith) p.0))
    (λ (q : IsAbove xs x place j d). related R _ _ _ _ p.1 q.3 (pairs i q.0 d (omega (arith, p.0, q.2)) (omega (arith, bound, size, q.1))))
    o)
    (at_insert xs x place j d inside))
    (λ n. ⊎_elim
    (λ (p : IsHere xs x place i d). ⊎_elim
    (λ (q : IsBelow xs x place j d). absurd (omega (arith, lt, p.0, q.0)))
    (λ o. ⊎_elim
    (λ (q : IsHere xs x place j d). absurd (omega (arith, lt, p.0, q.0)))
    (λ (q : IsAbove xs x place j d). related R _ _ _ _ p.1 q.3 (above q.0 d q.2 (omega (arith, bound, size, q.1))))
    o)
    (at_insert xs x place j d inside))
    (λ (p : IsAbove xs x place i d). ⊎_elim
    (λ (q : IsBelow xs x place j d). absurd (omega (arith, lt, p.1, p.2, q.0)))
    (λ o. ⊎_elim
    (λ (q : IsHere xs x place j d). absurd (omega (arith, lt, p.1, p.2, q.0)))
    (λ (q : IsAbove xs x place j d). related R _ _ _ _ p.3 q.3
    (pairs p.0 q.0 d (omega (arith, lt, p.1, q.1)) (omega (arith, bound, size, q.1))))
    o)
    (at_insert xs x place j d inside))
    n)
    (at_insert xs x place i d inside)

-- an insert keeps what was there
pub Among-insert : {X : Type 0} (x : X) (xs : List X) (place : ℕ) (y : X) → Among y xs → Among y (insert xs place x)
Among-insert x xs zero y m = inr m
Among-insert x [] (suc place) y m = absurd m
Among-insert x (z ∷ zs) (suc place) y m = ⊎_elim (λ (e : z ≡ y). inl e) (λ (n : Among y zs). inr (Among-insert x zs place y n)) m

-- and has what was put in
pub Among-inserted : {X : Type 0} (x : X) (xs : List X) (place : ℕ) → Among x (insert xs place x)
Among-inserted x xs zero = inl refl
Among-inserted x [] (suc place) = inl refl
Among-inserted x (z ∷ zs) (suc place) = inr (Among-inserted x zs place)

-- and nothing else
pub Among-uninsert : {X : Type 0} (x : X) (xs : List X) (place : ℕ) (y : X) → Among y (insert xs place x) → (x ≡ y) ⊎ Among y xs
Among-uninsert x xs zero y m = m
Among-uninsert x [] (suc place) y m = m
Among-uninsert x (z ∷ zs) (suc place) y m =
    ⊎_elim (λ (e : z ≡ y). inr (inl e)) (λ (n : Among y (insert zs place x)).
    ⊎_elim (λ (e : x ≡ y). inl e) (λ (k : Among y zs). inr (inr k)) (Among-uninsert x zs place y n)) m
