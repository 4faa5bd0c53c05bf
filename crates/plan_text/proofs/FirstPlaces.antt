-- the first place of each name, found in an order
use Rattle.std.specs.Prelude.{ℕ, ◌≡◌, ◌+◌, ◌<◌, Bool, true, false, ◌||◌, cond, List, [], ◌∷◌, map, length, drop, slice_get, Option, Some}
use Rattle.std.specs.Prelude.{None, IfSome, is_some, nat_lt, refl}
use Rattle.std.specs.List.{list_any, find, position, position_from, position_or_len}
use Rattle.std.specs.Option.{option_or, option_map, option_copied, unwrap_or}
use Rattle.std.specs.Str.{bytes_eq}
use Rattle.std.specs.Cmp.Lexicographic.{bytes_decides}
use Rattle.std.specs.Map.{update}
use Rattle.std.proofs.Common.{Bor, sym, ◌∙◌, ap, subst, get_or, add-one, drop-cons}
use Rattle.std.proofs.lemmas.Bool.{ltb-false}
use Rattle.std.proofs.lemmas.List.{length-map}
use Rattle.std.proofs.lemmas.List.Folds.{find_at}
use Rattle.std.proofs.lemmas.List.Quantifiers.{position-Some}
use Rattle.std.proofs.lemmas.Iterator.Adapters.{position_from-zero}
use Rattle.std.proofs.lemmas.Option.{slice_get-map, slice_get-get_or, slice_get_past}

new_at : (b : Bool) (o : Option ℕ) (place : ℕ) → (b ≡ true → o ≡ None) → cond b (Some place) o ≡ option_or o (cond b (Some place) None)
new_at true o place absent = sym (ap (λ (x : Option ℕ). option_or x (Some place)) (absent refl))
new_at false (Some found) place absent = refl
new_at false None place absent = refl

-- a place under a name that has none
pub new_name : (old new : List ℕ → Option ℕ) (name : List ℕ) (place : ℕ) → old name ≡ None
    → ((q : List ℕ) → new q ≡ update bytes_eq old name (Some place) q)
    → (q : List ℕ) → new q ≡ option_or (old q) (cond (bytes_eq name q) (Some place) None)
new_name old new name place absent put q =
    put q ∙ new_at (bytes_eq name q) (old q) place (λ same. ap old (sym ((bytes_decides name q).0 same)) ∙ absent)

pub not_there : (o : Option (Bor ℕ)) → false ≡ is_some o → option_copied o ≡ None
not_there None e = refl
not_there (Some found) e = absurd cc

or_next : (old : Option ℕ) (b : Bool) (place : ℕ) (rest : Option ℕ)
    → option_or (option_or old (cond b (Some place) None)) rest ≡ option_or old (cond b (Some place) rest)
or_next (Some found) b place rest = refl
or_next None true place rest = refl
or_next None false place rest = refl

position_from-drop : {V A : Type 0} (p : A → Bool) (seen : V → A) (xs : List V) (i : ℕ) (x : V) → i < length xs → get_or xs i x ≡ x
    → position_from p i (map seen (drop i xs)) ≡ cond (p (seen x)) (Some i) (position_from p (i + 1) (map seen (drop (i + 1) xs)))
position_from-drop p seen xs i x lt at = rw (add-one, drop-cons xs i x lt) (simp (add-one, at))

-- what is under a name so far, or else its first place from here on
pub goes_on_from : {V A : Type 0} (p : A → Bool) (seen : V → A) (xs : List V) (i : ℕ) (x : V) (old new whole : Option ℕ)
    → i < length xs → get_or xs i x ≡ x → new ≡ option_or old (cond (p (seen x)) (Some i) None)
    → option_or old (position_from p i (map seen (drop i xs))) ≡ whole
    → option_or new (position_from p (i + 1) (map seen (drop (i + 1) xs))) ≡ whole
goes_on_from p seen xs i x old new whole lt at put so_far =
    let rest = position_from p (i + 1) (map seen (drop (i + 1) xs)) in
    ap (λ (o : Option ℕ). option_or o rest) put ∙ (or_next old (p (seen x)) i rest
    ∙ (ap (λ (o : Option ℕ). option_or old o) (sym (position_from-drop p seen xs i x lt at)) ∙ so_far))

inside : {A : Type 0} (p : A → Bool) (xs : List A) (i : ℕ) → position p xs ≡ Some i → i < length xs
inside p [] i e = absurd cc
inside p (x ∷ xs) i e = (position-Some p (x ∷ xs) i x e).0

pub found_inside : {V A : Type 0} (p : A → Bool) (seen : V → A) (xs : List V) (o : Option ℕ) → o ≡ position p (map seen xs)
    → IfSome o (λ i. i < length xs)
found_inside p seen xs None e = tt
found_inside p seen xs (Some i) e = subst (λ n. i < n) (length-map xs seen) (inside p (map seen xs) i (sym e))

is_place : (b : Bool) (n i : ℕ) → cond b (Some n) None ≡ Some i → n ≡ i
is_place true n i e = ap (λ (o : Option ℕ). unwrap_or o n) e
is_place false n i e = absurd cc

is_past : (b : Bool) (n : ℕ) → cond b (Some n) None ≡ None → b ≡ false
is_past true n e = absurd cc
is_past false n e = refl

find_here : {A : Type 0} (p : A → Bool) (xs : List A) (i : ℕ) → position p xs ≡ Some i → find p xs ≡ slice_get xs i
find_here p xs i e = find_at p xs ∙ ap (slice_get xs) (is_place (nat_lt (position_or_len p xs) (length xs)) (position_or_len p xs) i e)

pub found_here : {V A : Type 0} (p : A → Bool) (seen : V → A) (xs : List V) (i : ℕ) (d : V) → i < length xs
    → Some i ≡ position p (map seen xs) → Some (seen (get_or xs i d)) ≡ find p (map seen xs)
found_here p seen xs i d lt e =
    sym (find_here p (map seen xs) i (sym e) ∙ (slice_get-map seen xs i ∙ ap (option_map seen) (slice_get-get_or xs i d lt)))

pub find_nowhere : {A : Type 0} (p : A → Bool) (xs : List A) → position p xs ≡ None → find p xs ≡ None
find_nowhere p xs e =
    let place = position_or_len p xs in
    find_at p xs ∙ slice_get_past xs place (ltb-false place (length xs) (is_past (nat_lt place (length xs)) place e))

any_from : {A : Type 0} (p : A → Bool) (i : ℕ) (xs : List A) → is_some (position_from p i xs) ≡ list_any p xs
any_from p i [] = refl
any_from p i (x ∷ xs) = elim (p x) as (λ b. is_some (cond b (Some i) (position_from p (i + 1) xs)) ≡ (b || list_any p xs)) [
  | true ↦ refl
  | false ↦ any_from p (i + 1) xs
]

pub any_found : {A : Type 0} (p : A → Bool) (xs : List A) → is_some (position p xs) ≡ list_any p xs
any_found p xs = ap is_some (position_from-zero p xs) ∙ any_from p 0 xs
