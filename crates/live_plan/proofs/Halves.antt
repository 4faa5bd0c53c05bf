-- What holds of the items of two slices, each by its place, holds of the items of both together.
use Rattle.std.proofs.Common.{◌≡◌, sym, subst, ap, ◌∙◌, ℕ, ◌+◌, ◌-◌, ◌<◌, ◌≤◌, List, ◌++◌, length, slice_index_or, slice_set}
use mathlib.Core.Logic.{⊎_elim}
use native.Mathlib.Omega.{arith}
use lib.ListN.{get_or, set}
use Rattle.std.proofs.lemmas.List.{get_or_append_left, get_or-append-add, get_or-append_right, length-append, get_or-set_same}
use Rattle.std.proofs.lemmas.List.{get_or-set_other}
use Rattle.std.proofs.lemmas.Bool.{cases_lt}

module _ {X : Type 0} where
  -- the items after the first ones
  pub each_behind : (P : ℕ → X → Type 0) (base n : ℕ) (all xs ys : List X) → all ≡ xs ++ ys → length xs ≡ n
      → ((k : ℕ) (d : X) → k < length all → P (base + k) (slice_index_or all k d))
      → (k : ℕ) (d : X) → k < length ys → P (base + n + k) (slice_index_or ys k d)
  each_behind P base n all xs ys e len h k d l =
      let place : base + (length xs + k) ≡ base + n + k = omega arith in
      subst (λ at. P at (get_or ys k d)) place
      (subst (P (base + (length xs + k))) (ap (λ it. get_or it (length xs + k) d) e ∙ get_or-append-add xs ys k d)
      (h (length xs + k) d (omega (arith, ap length e, length-append xs ys))))

  -- of both together
  pub each_of_both : (R : ℕ → X → X → Type 0) (base n : ℕ) (all xs ys xs' ys' : List X) → all ≡ xs ++ ys → length xs ≡ n → length xs' ≡ n
      → ((k : ℕ) (d : X) → k < length xs → R (base + k) (slice_index_or xs k d) (slice_index_or xs' k d))
      → ((k : ℕ) (d : X) → k < length ys → R (base + n + k) (slice_index_or ys k d) (slice_index_or ys' k d))
      → (k : ℕ) (d : X) → k < length all → R (base + k) (slice_index_or all k d) (slice_index_or (xs' ++ ys') k d)
  each_of_both R base n all xs ys xs' ys' e len len' first behind k d l =
      let here : get_or all k d ≡ get_or (xs ++ ys) k d = ap (λ it. get_or it k d) e in
      ⊎_elim
      (λ in_first.
      subst (λ x. R (base + k) x (get_or (xs' ++ ys') k d)) (sym (here ∙ get_or_append_left xs ys d k (omega arith)))
      (subst (R (base + k) (get_or xs k d)) (sym (get_or_append_left xs' ys' d k (omega arith))) (first k d (omega arith))))
      (λ past.
      let place : base + n + (k - n) ≡ base + k = omega arith in
      subst (λ x. R (base + k) x (get_or (xs' ++ ys') k d)) (sym (here ∙ get_or-append_right xs ys n k d len past))
      (subst (R (base + k) (get_or ys (k - n) d)) (sym (get_or-append_right xs' ys' n k d len' past))
      (subst (λ at. R at (get_or ys (k - n) d) (get_or ys' (k - n) d)) place
      (behind (k - n) d (omega (arith, ap length e, length-append xs ys))))))
      (cases_lt k n)

  -- one item more is done
  pub each_more : (R : ℕ → X → X → Type 0) (base k : ℕ) (xs ys : List X) (x y : X) → k < length ys
      → ((i : ℕ) (d : X) → k ≤ i → slice_index_or ys i d ≡ slice_index_or xs i d)
      → ((i : ℕ) (d : X) → i < k → R (base + i) (slice_index_or xs i d) (slice_index_or ys i d))
      → ((d : X) → slice_index_or ys k d ≡ x) → R (base + k) x y
      → ((i : ℕ) (d : X) → k + 1 ≤ i → slice_index_or (slice_set ys k y) i d ≡ slice_index_or xs i d)
      × ((i : ℕ) (d : X) → i < k + 1 → R (base + i) (slice_index_or xs i d) (slice_index_or (slice_set ys k y) i d))
  each_more R base k xs ys x y room left done is r = (
    λ i d l. get_or-set_other ys k i y d (λ e. omega arith) ∙ left i d (omega arith),
    λ i d l. ⊎_elim
        (λ before. subst (R (base + i) (get_or xs i d)) (sym (get_or-set_other ys k i y d (λ e. omega arith))) (done i d before))
        (λ past.
        let e : k ≡ i = omega arith in
        subst (λ at. R (base + at) (get_or xs at d) (get_or (set ys k y) at d)) e
        (subst (R (base + k) (get_or xs k d)) (sym (get_or-set_same ys k y d room))
        (subst (λ it. R (base + k) it y) (sym (is d) ∙ left k d (omega arith)) r)))
        (cases_lt i k),
  )
