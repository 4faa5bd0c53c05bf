-- tests over what a definition sees of the elements
use Rattle.std.specs.Prelude.{ℕ, ◌≡◌, ◌+◌, ◌<◌, ◌≤◌, Bool, ◌||◌, List, [], ◌∷◌, map, length, drop, Option, Some}
use Rattle.std.specs.Prelude.{None, refl}
use Rattle.std.specs.List.{list_any, position}
use Rattle.std.specs.Option.{option_or, unwrap_or}
use Rattle.std.proofs.Common.{sym, ◌∙◌, ap, get_or, add-one, drop-cons}
use Rattle.std.proofs.lemmas.List.{drop_all, length-map}
use Rattle.plan_rules.specs.FirstOf.{first_of}

pub position_or_length : {V A : Type 0} (p : A → Bool) (seen : V → A) (xs : List V) (o : Option ℕ) → o ≡ position p (map seen xs)
    → unwrap_or o (length xs) ≡ unwrap_or (position p (map seen xs)) (length (map seen xs))
position_or_length p seen xs o e = ap (λ (q : Option ℕ). unwrap_or q (length xs)) e
    ∙ ap (λ n. unwrap_or (position p (map seen xs)) n) (sym (length-map xs seen))

pub list_any-map : {V A : Type 0} (p : A → Bool) (seen : V → A) (xs : List V) → list_any p (map seen xs) ≡ list_any (λ x. p (seen x)) xs
list_any-map p seen [] = refl
list_any-map p seen (x ∷ xs) = ap (λ b. p (seen x) || b) (list_any-map p seen xs)

first_of-drop : {V A B : Type 0} (seen : V → A) (test : ℕ → A → Option B) (xs : List V) (j : ℕ) (x : V) → j < length xs → get_or xs j x ≡ x
    → first_of test j (map seen (drop j xs)) ≡ option_or (test j (seen x)) (first_of test (j + 1) (map seen (drop (j + 1) xs)))
first_of-drop {V} {A} {B} seen test xs j x lt at = rw (add-one, drop-cons xs j x lt) (simp (add-one, at))

pub first_here : {V A B : Type 0} (seen : V → A) (test : ℕ → A → Option B) (xs : List V) (j : ℕ) (x : V) (v : B) (whole : Option B)
    → j < length xs → get_or xs j x ≡ x → test j (seen x) ≡ Some v → first_of test j (map seen (drop j xs)) ≡ whole → Some v ≡ whole
first_here {V} {A} {B} seen test xs j x v whole lt at found rest =
    sym (first_of-drop seen test xs j x lt at
    ∙ ap (λ (o : Option B). option_or o (first_of test (j + 1) (map seen (drop (j + 1) xs)))) found) ∙ rest

pub first_next : {V A B : Type 0} (seen : V → A) (test : ℕ → A → Option B) (xs : List V) (j : ℕ) (x : V) (whole : Option B)
    → j < length xs → get_or xs j x ≡ x → test j (seen x) ≡ None → first_of test j (map seen (drop j xs)) ≡ whole
    → first_of test (j + 1) (map seen (drop (j + 1) xs)) ≡ whole
first_next {V} {A} {B} seen test xs j x whole lt at not_here rest =
    sym (first_of-drop seen test xs j x lt at
    ∙ ap (λ (o : Option B). option_or o (first_of test (j + 1) (map seen (drop (j + 1) xs)))) not_here) ∙ rest

pub first_end : {V A B : Type 0} (seen : V → A) (test : ℕ → A → Option B) (xs : List V) (j : ℕ) (whole : Option B) → length xs ≤ j
    → first_of test j (map seen (drop j xs)) ≡ whole → None ≡ whole
first_end seen test xs j whole le rest = sym (ap (λ zs. first_of test j (map seen zs)) (drop_all j xs le)) ∙ rest
