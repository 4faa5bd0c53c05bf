-- An element among those of a list, by recursion, and what a filter and a search give for it.
use Rattle.std.specs.Prelude.{ℕ, ◌≡◌, ◌<◌, ◌+◌, ◌⊎◌, Bool, true, false, cond, List, [], ◌∷◌, length, Some, None, refl, not, nat_lt}
use Rattle.std.specs.Prelude.{slice_get, ◌≤◌}
use Rattle.std.specs.List.{All, filter, find, list_all, list_any, AllPairs, position, position_or_len, prefix_len}
use Rattle.std.proofs.Common.{zero, sym, ◌∙◌, ap, subst, inl, inr, ⊎_elim, arith, get_or, suc}
use Rattle.std.proofs.lemmas.Bool.{false≢true, and_parts, and_from, cases_order, cond-false, not-true, ltb-false, or_parts}

abbrev pub Among : {X : Type 0} → X → List X → Type 0
Among x [] = ⊥
Among x (y ∷ ys) = (y ≡ x) ⊎ Among x ys

-- what holds of all elements holds of one among them
pub All-among : {X : Type 0} (P : X → Type 0) (x : X) (xs : List X) → All P xs → Among x xs → P x
All-among {X} P x [] all m = absurd m
All-among {X} P x (y ∷ ys) all m =
    ⊎_elim (λ (e : y ≡ x). subst P e (all 0 y (omega arith)))
    (λ (n : Among x ys). All-among P x ys (λ k d lt. all (suc k) d (omega arith)) n) m

pub Among-filter : {X : Type 0} (p : X → Bool) (x : X) (xs : List X) → p x ≡ true → Among x xs → Among x (filter p xs)
Among-filter p x [] h m = m
Among-filter p x (y ∷ ys) h m =
    elim (p y) as (λ b. p y ≡ b → Among x (cond b (y ∷ filter p ys) (filter p ys))) [
      | true ↦ λ e. ⊎_elim (λ q. inl q) (λ r. inr (Among-filter p x ys h r)) m
      | false ↦ λ e. ⊎_elim (λ q. absurd (false≢true (sym e ∙ ap p q ∙ h))) (λ r. Among-filter p x ys h r) m
    ] refl

pub Among-unfilter : {X : Type 0} (p : X → Bool) (x : X) (xs : List X) → Among x (filter p xs) → Among x xs × (p x ≡ true)
Among-unfilter p x [] m = absurd m
Among-unfilter p x (y ∷ ys) m =
    elim (p y) as (λ b. p y ≡ b → Among x (cond b (y ∷ filter p ys) (filter p ys)) → Among x (y ∷ ys) × (p x ≡ true)) [
      | true ↦ λ e n. ⊎_elim (λ q. (inl q, sym (ap p q) ∙ e)) (λ r. let k = Among-unfilter p x ys r in (inr k.0, k.1)) n
      | false ↦ λ e n. let k = Among-unfilter p x ys n in (inr k.0, k.1)
    ] refl m

pub find_one : {X : Type 0} (p : X → Bool) (x : X) (xs : List X) → Among x xs → p x ≡ true → ((y : X) → Among y xs → p y ≡ true → y ≡ x)
    → find p xs ≡ Some x
find_one p x [] m h u = absurd m
find_one p x (y ∷ ys) m h u =
    elim (p y) as (λ b. p y ≡ b → cond b (Some y) (find p ys) ≡ Some x) [
      | true ↦ λ e. ap Some (u y (inl refl) e)
      | false ↦ λ e. find_one p x ys (⊎_elim (λ q. absurd (false≢true (sym e ∙ ap p q ∙ h))) (λ r. r) m) h (λ z n k. u z (inr n) k)
    ] refl

pub list_all-from : {X : Type 0} (p : X → Bool) (xs : List X) → ((x : X) → Among x xs → p x ≡ true) → list_all p xs ≡ true
list_all-from p [] h = refl
list_all-from p (x ∷ xs) h = and_from (p x) (list_all p xs) (h x (inl refl)) (list_all-from p xs (λ y m. h y (inr m)))

pub list_all-at : {X : Type 0} (p : X → Bool) (x : X) (xs : List X) → list_all p xs ≡ true → Among x xs → p x ≡ true
list_all-at p x [] h m = absurd m
list_all-at p x (y ∷ ys) h m =
    let k = and_parts (p y) (list_all p ys) h in
    ⊎_elim (λ q. sym (ap p q) ∙ k.0) (λ r. list_all-at p x ys k.1 r) m

pub find-Some : {X : Type 0} (p : X → Bool) (x : X) (xs : List X) → find p xs ≡ Some x → Among x xs × (p x ≡ true)
find-Some p x [] h = absurd (cc)
find-Some p x (y ∷ ys) h =
    elim (p y) as (λ b. p y ≡ b → cond b (Some y) (find p ys) ≡ Some x → Among x (y ∷ ys) × (p x ≡ true)) [
      | true ↦ λ e k. let q : y ≡ x = cc in (inl q, sym (ap p q) ∙ e)
      | false ↦ λ e k. let r = find-Some p x ys k in (inr r.0, r.1)
    ] refl h

-- if the search finds nothing, nothing passes
pub find-None : {X : Type 0} (p : X → Bool) (x : X) (xs : List X) → find p xs ≡ None → Among x xs → p x ≡ false
find-None p x [] h m = absurd m
find-None p x (y ∷ ys) h m =
    elim (p y) as (λ b. p y ≡ b → cond b (Some y) (find p ys) ≡ None → p x ≡ false) [
      | true ↦ λ e k. absurd (cc)
      | false ↦ λ e k. ⊎_elim (λ q. sym (ap p q) ∙ e) (λ r. find-None p x ys k r) m
    ] refl h

pub Among-get_or : {X : Type 0} (xs : List X) (i : ℕ) (d : X) → i < length xs → Among (get_or xs i d) xs
Among-get_or [] i d h = absurd (omega arith)
Among-get_or (x ∷ xs) zero d h = inl refl
Among-get_or (x ∷ xs) (suc i) d h = inr (Among-get_or xs i d (omega arith))

-- the place of an element
pub place_of_Among : {X : Type 0} (x : X) (xs : List X) → Among x xs → (i : ℕ) × (i < length xs) × ((d : X) → get_or xs i d ≡ x)
place_of_Among x [] m = absurd m
place_of_Among x (y ∷ ys) m =
    ⊎_elim (λ q. (0, omega arith, λ d. q)) (λ r. let k = place_of_Among x ys r in (suc k.0, omega (arith, k.1), λ d. k.2 d)) m

-- if no two elements of a list are related, two related elements of it are one
pub same_of_pairs : {X : Type 0} (R : X → X → Type 0) (x y : X) (xs : List X) → ((a b : X) → R a b → R b a) → AllPairs (λ a b. R a b → ⊥) xs
    → Among x xs → Among y xs → R x y → x ≡ y
same_of_pairs {X} R x y xs flip apart m n r =
    let k = place_of_Among x xs m in
    let l = place_of_Among y xs n in
    ⊎_elim
    (λ (e : k.0 ≡ l.0). sym (k.2 x) ∙ ap (λ i. get_or xs i x) e ∙ l.2 x)
    (λ o. ⊎_elim
    (λ (lt : k.0 < l.0). absurd (apart k.0 l.0 x lt l.1 (subst (λ (b : X). R (get_or xs k.0 x) b) (sym (l.2 x))
    (subst (λ (a : X). R a y) (sym (k.2 x)) r))))
    (λ (gt : l.0 < k.0). absurd (apart l.0 k.0 x gt k.1 (subst (λ (b : X). R (get_or xs l.0 x) b) (sym (k.2 x))
    (subst (λ (a : X). R a x) (sym (l.2 x)) (flip x y r)))))
    o)
    (cases_order k.0 l.0)

pub filter_none : {X : Type 0} (p : X → Bool) (xs : List X) → ((x : X) → Among x xs → p x ≡ false) → filter p xs ≡ []
filter_none p [] h = refl
filter_none p (x ∷ xs) h = cond-false (p x) (x ∷ filter p xs) (filter p xs) (h x (inl refl)) ∙ filter_none p xs (λ y m. h y (inr m))

prefix_whole : {X : Type 0} (p : X → Bool) (x : X) (xs : List X) → length xs ≤ prefix_len p xs → Among x xs → p x ≡ true
prefix_whole p x [] h m = absurd m
prefix_whole p x (y ∷ ys) h m =
    elim (p y) as (λ b. p y ≡ b → suc (length ys) ≤ cond b (1 + prefix_len p ys) 0 → p x ≡ true) [
      | true ↦ λ e k. ⊎_elim (λ q. sym (ap p q) ∙ e) (λ r. prefix_whole p x ys (omega arith) r) m
      | false ↦ λ e k. absurd (omega arith)
    ] refl h

-- if there is no first place that passes, nothing passes
pub position-None : {X : Type 0} (p : X → Bool) (x : X) (xs : List X) → position p xs ≡ None → Among x xs → p x ≡ false
position-None p x xs h m =
    not-true (p x) (prefix_whole (λ y. not (p y)) x xs
    (elim (nat_lt (position_or_len p xs) (length xs)) as (λ b. nat_lt (position_or_len p xs) (length xs) ≡ b
    → cond b (Some (position_or_len p xs)) None ≡ None → length xs ≤ position_or_len p xs) [
      | true ↦ λ e k. absurd (cc)
      | false ↦ λ e k. ltb-false (position_or_len p xs) (length xs) e
    ] refl h) m)

pub list_any-none : {X : Type 0} (p : X → Bool) (x : X) (xs : List X) → list_any p xs ≡ false → Among x xs → p x ≡ false
list_any-none p x [] h m = absurd m
list_any-none p x (y ∷ ys) h m =
    let k = or_parts (p y) (list_any p ys) h in
    ⊎_elim (λ q. sym (ap p q) ∙ k.0) (λ r. list_any-none p x ys k.1 r) m

pub Among-slice_get : {X : Type 0} (xs : List X) (i : ℕ) (x : X) → slice_get xs i ≡ Some x → Among x xs
Among-slice_get [] zero x e = absurd (cc)
Among-slice_get [] (suc i) x e = absurd (cc)
Among-slice_get (y ∷ ys) zero x e = inl (cc)
Among-slice_get (y ∷ ys) (suc i) x e = inr (Among-slice_get ys i x e)

pub same_bool : (a b : Bool) → (a ≡ true → b ≡ true) → (b ≡ true → a ≡ true) → a ≡ b
same_bool true true f g = refl
same_bool true false f g = sym (f refl)
same_bool false true f g = g refl
same_bool false false f g = refl

-- two tests that agree at each element keep the same elements
pub filter_agree_on : {X : Type 0} (p q : X → Bool) (xs : List X) → ((x : X) → Among x xs → p x ≡ q x) → filter p xs ≡ filter q xs
filter_agree_on p q [] h = refl
filter_agree_on p q (x ∷ xs) h =
    λ i. cond (h x (inl refl) i) (x ∷ filter_agree_on p q xs (λ y m. h y (inr m)) i) (filter_agree_on p q xs (λ y m. h y (inr m)) i)
