-- flags for the numbers that were met
use Rattle.std.specs.Prelude.{ℕ, ◌≡◌, ◌≢◌, ◌+◌, ◌<◌, Bool, true, false, ◌||◌, ◌==◌, List, length, take, Some, None, refl}
use Rattle.std.specs.List.{list_any}
use Rattle.std.proofs.Common.{sym, ◌∙◌, ap, subst, get_or, set, inl, inr, arith}
use Rattle.std.proofs.lemmas.Bool.{cases_Bool, eqb-true, eqb-false, or_right}
use Rattle.std.proofs.lemmas.List.{get_or-set_same, get_or-set_other, length-set}
use Rattle.std.proofs.lemmas.List.Folds.{list_any_more}
use Rattle.plan_text.specs.Drafts.{repeat_at}

-- each flag says whether its number was met
abbrev pub Marks : List Bool → List ℕ → Type 0
Marks seen met = (k : ℕ) → k < length seen → get_or seen k false ≡ list_any (λ y. y == k) met

or_false : (a : Bool) → (a || false) ≡ a
or_false true = refl
or_false false = refl

pub marked : (seen : List Bool) (xs : List ℕ) (i x : ℕ) → i < length xs → get_or xs i 0 ≡ x → x < length seen → Marks seen (take i xs)
    → Marks (set seen x true) (take (i + 1) xs)
marked seen xs i x lt at inside marks = λ k below.
    elim (cases_Bool (x == k)) [
      | inl same ↦
          let e : x ≡ k = eqb-true x k same in
          let left : get_or (set seen x true) k false ≡ true = subst (λ (n : ℕ). get_or (set seen x true) n false ≡ true) e
          (get_or-set_same seen x true false inside) in
          let right : list_any (λ y. y == k) (take (i + 1) xs) ≡ true = list_any_more (λ y. y == k) xs i 0 lt
          ∙ or_right (list_any (λ y. y == k) (take i xs)) (get_or xs i 0 == k) (ap (λ n. n == k) at ∙ same) in
          left ∙ sym right
      | inr other ↦
          let ne : k ≢ x = λ e. eqb-false x k other (sym e) in
          let room : k < length seen = omega (arith, below, length-set seen x true) in
          let right : list_any (λ y. y == k) (take (i + 1) xs) ≡ list_any (λ y. y == k) (take i xs) =
          list_any_more (λ y. y == k) xs i 0 lt ∙ ap (λ b. list_any (λ y. y == k) (take i xs) || b) (ap (λ n. n == k) at ∙ other)
          ∙ or_false (list_any (λ y. y == k) (take i xs)) in
          get_or-set_other seen x k true false ne ∙ marks k room ∙ sym right
    ]

-- a number is a repeat exactly if it was met
pub met : (xs : List ℕ) (i x : ℕ) → list_any (λ y. y == x) (take i xs) ≡ true → repeat_at xs i x ≡ Some i
met xs i x h = rw h refl

pub not_met : (xs : List ℕ) (i x : ℕ) → list_any (λ y. y == x) (take i xs) ≡ false → repeat_at xs i x ≡ None
not_met xs i x h = rw h refl
