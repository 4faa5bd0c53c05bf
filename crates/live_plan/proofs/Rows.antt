-- What holds of each item of a list, with one more item at its end.
use Rattle.std.proofs.Common.{◌≡◌, ℕ, ◌+◌, ◌<◌, ◌≤◌, List, [], ◌∷◌, ◌++◌, length, get_or, ⊎_elim, sym, subst, arith}
use Rattle.std.proofs.lemmas.Bool.{cases_lt}
use Rattle.std.proofs.lemmas.List.{get_or_append_left, get_or_push}

pub all_push : {A : Type 0} (P : ℕ → A → Type 0) (xs : List A) (x : A) (n : ℕ) → length xs ≡ n
    → ((i : ℕ) (d : A) → i < n → P i (get_or xs i d)) → P n x → (i : ℕ) (d : A) → i < n + 1 → P i (get_or (xs ++ x ∷ []) i d)
all_push P xs x n long all here i d lt =
    ⊎_elim (λ (old : i < n). subst (P i) (sym (get_or_append_left xs (x ∷ []) d i (omega (arith, long, old)))) (all i d old))
    (λ (new : n ≤ i).
    let same : i ≡ n = omega arith in
    subst (P i) (sym (get_or_push xs x d i (omega (arith, long, same)))) (subst (λ k. P k x) (sym same) here))
    (cases_lt i n)
