-- A list in which the item at a place is changed, and counts that stop.
use Rattle.std.proofs.Common.{◌≡◌, ℕ, zero, suc, ◌+◌, ◌-◌, ◌^◌, ◌<◌, ◌≤◌, min, Bool, true, false, List, [], ◌∷◌, length, map}
use Rattle.std.proofs.Common.{Option, Some}
use Rattle.std.proofs.Common.{None}
use Rattle.std.proofs.Common.{refl, sym, ◌∙◌, ap, subst, arith, ⊎_elim, set, length-set}
use Rattle.std.specs.Prelude.{slice_get, option_map, ◌==◌}
use Rattle.std.specs.Option.{option_map_or}
use Rattle.std.proofs.lemmas.Bool.{eqb-true, eq-eqb, cases_lt}
use Rattle.std.proofs.Math.Nat.{min-eq_left, min-eq_right}
use Rattle.relay_watch.specs.Kept.{changed, one_more}
use Rattle.relay_watch.specs.Totals.{stopped, is_here}

-- ---- the item at a place

abbrev pub only_if : {A : Type 0} → Bool → (A → A) → A → A
only_if true f x = f x
only_if false f x = x

unchanged : {A : Type 0} (f : A → A) (o : Option A) → o ≡ option_map (only_if false f) o
unchanged f None = refl
unchanged f (Some x) = refl

at_same : {A : Type 0} (xs : List A) (i : ℕ) (x y : A) → slice_get xs i ≡ Some x → slice_get (set xs i y) i ≡ Some y
at_same [] zero x y e = absurd cc
at_same [] (suc i) x y e = absurd cc
at_same (z ∷ xs) zero x y e = refl
at_same (z ∷ xs) (suc i) x y e = at_same xs i x y e

at_other : {A : Type 0} (xs : List A) (i j : ℕ) (y : A) → (i ≡ j → ⊥) → slice_get (set xs i y) j ≡ slice_get xs j
at_other [] zero j y apart = refl
at_other [] (suc i) j y apart = refl
at_other (z ∷ xs) zero zero y apart = absurd (apart refl)
at_other (z ∷ xs) zero (suc j) y apart = refl
at_other (z ∷ xs) (suc i) zero y apart = refl
at_other (z ∷ xs) (suc i) (suc j) y apart = at_other xs i j y (λ e. apart (ap suc e))

differ : (i j : ℕ) → (i == j) ≡ false → i ≡ j → ⊥
differ i j h e = off (sym h ∙ eq-eqb i j e) where
  off : false ≡ true → ⊥
  off k = cc

-- the item at that place is changed, and no other
pub changed_at : {A : Type 0} (f : A → A) (place : Option ℕ) (xs : List A) (node : ℕ)
    → slice_get (changed f place xs) node ≡ option_map (only_if (is_here node place) f) (slice_get xs node)
changed_at f None xs node = unchanged f (slice_get xs node)
changed_at {A} f (Some i) xs node = by (slice_get xs i) refl (i == node) refl where
  by : (o : Option A) → slice_get xs i ≡ o → (b : Bool) → (i == node) ≡ b
      → slice_get (option_map_or (λ x. set xs i (f x)) o xs) node ≡ option_map (only_if b f) (slice_get xs node)
  by None e true h =
      let none : slice_get xs node ≡ None = subst (λ k. slice_get xs k ≡ None) (eqb-true i node h) e in
      none ∙ ap (option_map (only_if true f)) (sym none)
  by None e false h = unchanged f (slice_get xs node)
  by (Some x) e true h =
      subst (λ k. slice_get (set xs i (f x)) k ≡ option_map (only_if true f) (slice_get xs k)) (eqb-true i node h)
      (at_same xs i x (f x) e ∙ ap (option_map (only_if true f)) (sym e))
  by (Some x) e false h = at_other xs i node (f x) (differ i node h) ∙ unchanged f (slice_get xs node)

map_set : {A B : Type 0} (v : A → B) (xs : List A) (i : ℕ) (x y : A) → slice_get xs i ≡ Some x → v y ≡ v x
    → map v (set xs i y) ≡ map v xs
map_set v [] zero x y e h = refl
map_set v [] (suc i) x y e h = refl
map_set {A} {B} v (z ∷ xs) zero x y e h = let same : z ≡ x = cc in ap (λ (k : B). k ∷ map v xs) (h ∙ ap v (sym same))
map_set v (z ∷ xs) (suc i) x y e h = ap (λ ks. v z ∷ ks) (map_set v xs i x y e h)

-- what a change keeps of each item, it keeps of all
pub map_changed : {A B : Type 0} (v : A → B) (f : A → A) (place : Option ℕ) (xs : List A) → ((x : A) → v (f x) ≡ v x)
    → map v (changed f place xs) ≡ map v xs
map_changed v f None xs keeps = refl
map_changed {A} {B} v f (Some i) xs keeps = by (slice_get xs i) refl where
  by : (o : Option A) → slice_get xs i ≡ o → map v (option_map_or (λ x. set xs i (f x)) o xs) ≡ map v xs
  by None e = refl
  by (Some x) e = map_set v xs i x (f x) e (keeps x)

pub length_changed : {A : Type 0} (f : A → A) (place : Option ℕ) (xs : List A) → length (changed f place xs) ≡ length xs
length_changed f None xs = refl
length_changed {A} f (Some i) xs = by (slice_get xs i) where
  by : (o : Option A) → length (option_map_or (λ x. set xs i (f x)) o xs) ≡ length xs
  by None = refl
  by (Some x) = length-set xs i (f x)

-- ---- counts that stop

stop_at : (n m : ℕ) → min (min n m + 1) m ≡ min (suc n) m
stop_at n m =
    ⊎_elim (λ (p : n < m). ap (λ k. min k m) (ap (λ k. k + 1) (min-eq_left (omega (arith, p))) ∙ omega arith))
    (λ (p : m ≤ n). ap (λ k. min (k + 1) m) (min-eq_right p) ∙ min-eq_right (omega arith) ∙ sym (min-eq_right (omega (arith, p))))
    (cases_lt n m)

pub stopped_more : (n : ℕ) → one_more (stopped n) ≡ stopped (suc n)
stopped_more n = stop_at n (2 ^ 64 - 1)
