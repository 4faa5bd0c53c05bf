-- Parts of lists.
use Rattle.std.proofs.Common.{◌≡◌, ◌⊎◌, ◌<◌, ℕ, zero, suc, List, [], ◌∷◌, ◌++◌, length, Some, refl, sym, subst, arith, inl, inr}
use Rattle.std.specs.Prelude.{slice_get}
use Rattle.std.specs.List.{AllByRecursion, Contains}
use Rattle.std.proofs.lemmas.List.Elements.{Contains-append_right}

pub same_head : {X : Type 0} {x y : X} {xs ys : List X} → x ∷ xs ≡ y ∷ ys → x ≡ y
same_head e = cc

pub same_tail : {X : Type 0} {x y : X} {xs ys : List X} → x ∷ xs ≡ y ∷ ys → xs ≡ ys
same_tail e = cc

-- a front of two lists that are put together is a front of the first one, or reaches into the second one
pub cut : {X : Type 0} (xs ys before after : List X) → xs ++ ys ≡ before ++ after
    → ((mid : List X) × (xs ≡ before ++ mid)) ⊎ ((b : List X) × (before ≡ xs ++ b) × (ys ≡ b ++ after))
cut [] ys before after e = inr (before, refl, e)
cut (x ∷ xs) ys [] after e = inl (x ∷ xs, refl)
cut {X} (x ∷ xs) ys (b ∷ before) after e = on (cut xs ys before after (same_tail e)) where
  on : ((mid : List X) × (xs ≡ before ++ mid)) ⊎ ((c : List X) × (before ≡ xs ++ c) × (ys ≡ c ++ after))
      → ((mid : List X) × (x ∷ xs ≡ b ∷ (before ++ mid))) ⊎ ((c : List X) × (b ∷ before ≡ x ∷ (xs ++ c)) × (ys ≡ c ++ after))
  on (inl h) = inl (h.0, λ i. same_head e i ∷ h.1 i)
  on (inr h) = inr (h.0, (λ i. sym (same_head e) i ∷ h.1 i), h.2)

-- an element of two lists that are put together is in the first one or in the second one
pub parted : {X : Type 0} (xs ys before : List X) (p : X) (after : List X) → xs ++ ys ≡ before ++ p ∷ after
    → ((mid : List X) × (xs ≡ before ++ p ∷ mid) × (after ≡ mid ++ ys)) ⊎ ((b : List X) × (before ≡ xs ++ b) × (ys ≡ b ++ p ∷ after))
parted [] ys before p after e = inr (before, refl, e)
parted (x ∷ xs) ys [] p after e = inl (xs, (λ i. same_head e i ∷ xs), sym (same_tail e))
parted {X} (x ∷ xs) ys (b ∷ before) p after e = on (parted xs ys before p after (same_tail e)) where
  on : ((mid : List X) × (xs ≡ before ++ p ∷ mid) × (after ≡ mid ++ ys)) ⊎ ((c : List X) × (before ≡ xs ++ c) × (ys ≡ c ++ p ∷ after))
      → ((mid : List X) × (x ∷ xs ≡ b ∷ (before ++ p ∷ mid)) × (after ≡ mid ++ ys))
      ⊎ ((c : List X) × (b ∷ before ≡ x ∷ (xs ++ c)) × (ys ≡ c ++ p ∷ after))
  on (inl h) = inl (h.0, (λ i. same_head e i ∷ h.1 i), h.2)
  on (inr h) = inr (h.0, (λ i. sym (same_head e) i ∷ h.1 i), h.2)

pub here : {X : Type 0} (xs : List X) (x : X) → Contains (x ∷ xs) x
here xs x = (0, omega arith, refl)

-- the element between two parts of a list is in it
pub among_parts : {X : Type 0} (xs before : List X) (p : X) (after : List X) → xs ≡ before ++ p ∷ after → Contains xs p
among_parts xs before p after e = subst (λ ys. Contains ys p) (sym e) (Contains-append_right before (p ∷ after) p (here after p))

-- a list without elements has none between two parts
pub no_parts : {X : Type 0} (before : List X) (p : X) (after : List X) → [] ≡ before ++ p ∷ after → ⊥
no_parts before p after e = let c = among_parts [] before p after e in omega (arith, c.1)

pub single : {X : Type 0} (x : X) (before : List X) (p : X) (after : List X) → x ∷ [] ≡ before ++ p ∷ after → (before ≡ []) × (x ≡ p)
single x [] p after e = (refl, same_head e)
single x (b ∷ before) p after e = absurd (no_parts before p after (same_tail e))

pub no_front : {X : Type 0} (before after : List X) → [] ≡ before ++ after → before ≡ []
no_front [] after e = refl
no_front (b ∷ before) after e = absurd (no_parts [] b (before ++ after) e)

-- ---- what holds of each element

pub all_front : {X : Type 0} (P : X → Type 0) (xs ys : List X) → AllByRecursion P (xs ++ ys) → AllByRecursion P xs
all_front P [] ys h = tt
all_front P (x ∷ xs) ys h = (h.0, all_front P xs ys h.1)

pub all_back : {X : Type 0} (P : X → Type 0) (xs ys : List X) → AllByRecursion P (xs ++ ys) → AllByRecursion P ys
all_back P [] ys h = h
all_back P (x ∷ xs) ys h = all_back P xs ys h.1

pub all_both : {X : Type 0} (P : X → Type 0) (xs ys : List X) → AllByRecursion P xs → AllByRecursion P ys → AllByRecursion P (xs ++ ys)
all_both P [] ys h own = own
all_both P (x ∷ xs) ys h own = (h.0, all_both P xs ys h.1 own)

pub all_push : {X : Type 0} (P : X → Type 0) (xs : List X) (x : X) → AllByRecursion P xs → P x → AllByRecursion P (xs ++ x ∷ [])
all_push P xs x h own = all_both P xs (x ∷ []) h (own, tt)

pub all_get : {X : Type 0} (P : X → Type 0) (xs : List X) (k : ℕ) (x : X) → AllByRecursion P xs → slice_get xs k ≡ Some x → P x
all_get P [] k x h e = cc
all_get P (y ∷ ys) zero x h e = let is : y ≡ x = cc in subst P is h.0
all_get P (y ∷ ys) (suc k) x h e = all_get P ys k x h.1 e

-- ---- elements by their places

pub got : {X : Type 0} (xs : List X) (k : ℕ) → k < length xs → (x : X) × (slice_get xs k ≡ Some x)
got [] k le = absurd (omega (arith, le))
got (x ∷ xs) zero le = (x, refl)
got (x ∷ xs) (suc k) le = got xs k (omega (arith, le))

pub got_below : {X : Type 0} (xs : List X) (k : ℕ) (x : X) → slice_get xs k ≡ Some x → k < length xs
got_below [] k x e = cc
got_below (y ∷ ys) zero x e = omega arith
got_below (y ∷ ys) (suc k) x e = let h = got_below ys k x e in omega (arith, h)

pub got_front : {X : Type 0} (xs ys : List X) (k : ℕ) (x : X) → slice_get xs k ≡ Some x → slice_get (xs ++ ys) k ≡ Some x
got_front [] ys k x e = cc
got_front (y ∷ xs) ys zero x e = e
got_front (y ∷ xs) ys (suc k) x e = got_front xs ys k x e
