-- Elements of a list: among the parts of it, by a test, by a place, and among the first of them.
use Rattle.std.specs.Prelude.{◌≡◌, ◌⊎◌, ℕ, ◌≤◌, Bool, true, false, cond, List, [], ◌∷◌, ◌++◌, take, filter, All}
use Rattle.std.specs.Prelude.{Contains, refl}
use Rattle.std.specs.List.{list_any}
use Rattle.std.proofs.Common.{zero, suc, inl, inr, ⊎_elim, sym, ap, subst, ◌∙◌, arith}
use Rattle.std.proofs.lemmas.Bool.{false≢true, or_cases, or_left, or_right}
use Rattle.std.proofs.lemmas.List.Elements.{All-nil, All-cons}
use Rattle.sccp_base.proofs.Among.{Among, Among-get_or, place_of_Among}

module _ {X : Type 0} where
  -- ---- parts

  pub Among-left : (x : X) (xs ys : List X) → Among x xs → Among x (xs ++ ys)
  Among-left x [] ys m = absurd m
  Among-left x (z ∷ xs) ys m = ⊎_elim (λ e. inl e) (λ n. inr (Among-left x xs ys n)) m

  pub Among-right : (x : X) (xs ys : List X) → Among x ys → Among x (xs ++ ys)
  Among-right x [] ys m = m
  Among-right x (z ∷ xs) ys m = inr (Among-right x xs ys m)

  pub Among-parts : (x : X) (xs ys : List X) → Among x (xs ++ ys) → Among x xs ⊎ Among x ys
  Among-parts x [] ys m = inr m
  Among-parts x (z ∷ xs) ys m =
      ⊎_elim (λ e. inl (inl e)) (λ n. ⊎_elim (λ a. inl (inr a)) (λ b. inr b) (Among-parts x xs ys n)) m

  -- the elements before one and after it
  pub Among-split : (x : X) (xs : List X) → Among x xs → (front : List X) × (back : List X) × (xs ≡ front ++ x ∷ back)
  Among-split x [] m = absurd m
  Among-split x (y ∷ ys) m =
      ⊎_elim (λ (e : y ≡ x). ([], ys, ap (λ z. z ∷ ys) e))
      (λ (n : Among x ys). let k = Among-split x ys n in (y ∷ k.0, k.1, ap (λ zs. y ∷ zs) k.2)) m

  -- ---- tests

  pub any_among : (p : X → Bool) (xs : List X) → list_any p xs ≡ true → (x : X) × Among x xs × (p x ≡ true)
  any_among p [] h = absurd (false≢true h)
  any_among p (y ∷ ys) h =
      ⊎_elim (λ (e : p y ≡ true). (y, inl refl, e))
      (λ (r : list_any p ys ≡ true). let k = any_among p ys r in (k.0, inr k.1, k.2)) (or_cases (p y) (list_any p ys) h)

  pub among_any : (p : X → Bool) (x : X) (xs : List X) → Among x xs → p x ≡ true → list_any p xs ≡ true
  among_any p x [] m h = absurd m
  among_any p x (y ∷ ys) m h =
      ⊎_elim (λ (e : y ≡ x). or_left (p y) (list_any p ys) (ap p e ∙ h)) (λ n. or_right (p y) (list_any p ys) (among_any p x ys n h)) m

  -- ---- places

  pub contained : (x : X) (xs : List X) → Among x xs → Contains xs x
  contained x xs m = let k = place_of_Among x xs m in (k.0, k.1, k.2 x)

  pub among : (x : X) (xs : List X) → Contains xs x → Among x xs
  among x xs c = subst (λ y. Among y xs) c.2 (Among-get_or xs c.0 x c.1)

  pub All-from_among : (P : X → Type 0) (xs : List X) → ((x : X) → Among x xs → P x) → All P xs
  All-from_among P [] h = All-nil P
  All-from_among P (x ∷ xs) h = All-cons P x xs (h x (inl refl)) (All-from_among P xs (λ y m. h y (inr m)))

  -- ---- the first elements

  pub Among-take : (x : X) (n : ℕ) (xs : List X) → Among x (take n xs) → Among x xs
  Among-take x zero xs m = absurd m
  Among-take x (suc n) [] m = absurd m
  Among-take x (suc n) (y ∷ ys) m = ⊎_elim (λ e. inl e) (λ r. inr (Among-take x n ys r)) m

  pub Among-take_more : (x : X) (n : ℕ) (xs : List X) → Among x (take n xs) → Among x (take (suc n) xs)
  Among-take_more x zero xs m = absurd m
  Among-take_more x (suc n) [] m = absurd m
  Among-take_more x (suc n) (y ∷ ys) m = ⊎_elim (λ e. inl e) (λ r. inr (Among-take_more x n ys r)) m

  pub Among-take_take : (x : X) (n most : ℕ) (xs : List X) → n ≤ most → Among x (take n xs) → Among x (take n (take most xs))
  Among-take_take x zero most xs h m = absurd m
  Among-take_take x (suc n) zero xs h m = absurd (omega arith)
  Among-take_take x (suc n) (suc most) [] h m = absurd m
  Among-take_take x (suc n) (suc most) (y ∷ ys) h m =
      ⊎_elim (λ e. inl e) (λ r. inr (Among-take_take x n most ys (omega arith) r)) m

  pub Among-take_filter : (p : X → Bool) (x : X) (n : ℕ) (xs : List X) → p x ≡ true → Among x (take n xs) → Among x (take n (filter p xs))
  Among-take_filter p x zero xs h m = absurd m
  Among-take_filter p x (suc n) [] h m = absurd m
  Among-take_filter p x (suc n) (y ∷ ys) h m =
      elim (p y) as (λ b. p y ≡ b → Among x (take (suc n) (cond b (y ∷ filter p ys) (filter p ys)))) [
        | true ↦ λ e. ⊎_elim (λ q. inl q) (λ r. inr (Among-take_filter p x n ys h r)) m
        | false ↦ λ e. ⊎_elim (λ (q : y ≡ x). absurd (false≢true (sym e ∙ ap p q ∙ h)))
            (λ r. Among-take_more x n (filter p ys) (Among-take_filter p x n ys h r)) m
      ] refl
