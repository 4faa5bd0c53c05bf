-- A loop that takes one value after another, as `each_ok` does. `seen` is what a definition sees of an element.
use Rattle.std.proofs.Common.{◌≡◌, ℕ, ◌+◌, ◌<◌, ◌≤◌, Bool, true, false, List, [], ◌∷◌, ◌++◌, length, get_or, drop, map, Result, Ok, Err}
use Rattle.std.proofs.Common.{sym, ap, ◌∙◌, add-one, drop-cons}
use Rattle.std.specs.Prelude.{⊤}
use Rattle.std.specs.Bool.{MatchBool}
use Rattle.std.proofs.lemmas.List.{append-nil, drop_all}
use Rattle.sccp_base.specs.Answers.{◌>>=◌}
use Rattle.sccp_base.proofs.AllOk.{regroup, with_front}
use Rattle.plan_text.specs.EachOk.{each_ok}

-- what is still read from a place on
abbrev pub ahead : {V A B E : Type 0} → (V → A) → (ℕ → A → Result B E) → ℕ → List V → Result (List B) E
ahead seen read i xs = each_ok read i (map seen (drop i xs))

pub ahead-drop : {V A B E : Type 0} (seen : V → A) (read : ℕ → A → Result B E) (xs : List V) (i : ℕ) (x : V) → i < length xs
    → get_or xs i x ≡ x
    → ahead seen read i xs ≡ (read i (seen x) >>= λ y. ahead seen read (i + 1) xs >>= λ ys. Ok (y ∷ ys))
ahead-drop {V} {A} {B} {E} seen read xs i x lt at = rw (add-one, drop-cons xs i x lt) (simp (add-one, at))

pub goes_on : {V A B E : Type 0} (seen : V → A) (read : ℕ → A → Result B E) (front : List B) (xs : List V) (i : ℕ) (x : V) (y : B)
    (total : Result (List B) E)
    → i < length xs → get_or xs i x ≡ x → read i (seen x) ≡ Ok y → with_front front (ahead seen read i xs) ≡ total
    → with_front (front ++ y ∷ []) (ahead seen read (i + 1) xs) ≡ total
goes_on seen read front xs i x y total lt at here so_far =
    let one : with_front front (ahead seen read i xs) ≡ with_front (front ++ y ∷ []) (ahead seen read (i + 1) xs) =
    ap (with_front front) (ahead-drop seen read xs i x lt at ∙ ap (λ r. r >>= λ z. ahead seen read (i + 1) xs >>= λ zs. Ok (z ∷ zs)) here)
    ∙ regroup front y (ahead seen read (i + 1) xs) in
    sym one ∙ so_far

ends_by : {V A B E : Type 0} (memory : Bool) (e : E) (seen : V → A) (read : ℕ → A
    → Result B E) (front : List B) (xs : List V) (i : ℕ) (x : V) (total : Result (List B) E)
    → i < length xs → get_or xs i x ≡ x → MatchBool memory ⊤ (read i (seen x) ≡ Err e) → with_front front (ahead seen read i xs) ≡ total
    → MatchBool memory ⊤ (total ≡ Err e)
ends_by true e seen read front xs i x total lt at here so_far = tt
ends_by false e seen read front xs i x total lt at here so_far =
    sym so_far ∙ ap (with_front front) (ahead-drop seen read xs i x lt at
    ∙ ap (λ r. r >>= λ z. ahead seen read (i + 1) xs >>= λ zs. Ok (z ∷ zs)) here)

pub ends : {V A B E : Type 0} (is_memory : E → Bool) (e : E) (seen : V → A) (read : ℕ → A
    → Result B E) (front : List B) (xs : List V) (i : ℕ) (x : V) (total : Result (List B) E)
    → i < length xs → get_or xs i x ≡ x → MatchBool (is_memory e) ⊤ (read i (seen x) ≡ Err e)
    → with_front front (ahead seen read i xs) ≡ total → MatchBool (is_memory e) ⊤ (total ≡ Err e)
ends is_memory e seen read front xs i x total lt at here so_far = ends_by (is_memory e) e seen read front xs i x total lt at here so_far

pub is_done : {V A B E : Type 0} (seen : V → A) (read : ℕ → A
    → Result B E) (front : List B) (xs : List V) (i : ℕ) (total : Result (List B) E)
    → length xs ≤ i → with_front front (ahead seen read i xs) ≡ total → total ≡ Ok front
is_done seen read front xs i total le so_far =
    let one : with_front front (ahead seen read i xs) ≡ Ok front = ap (λ zs. with_front front (each_ok read i (map seen zs)))
    (drop_all i xs le) ∙ ap Ok (append-nil front) in
    sym so_far ∙ one
