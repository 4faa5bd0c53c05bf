-- A list that grows by one value for each number.
use Rattle.std.proofs.Common.{◌≡◌, ℕ, ◌+◌, List, [], ◌∷◌, ◌++◌, map, sym, ◌∙◌, ap, zero-add}
use Rattle.std.specs.List.{range_with_len}
use Rattle.std.proofs.lemmas.List.FromFn.{map-range_with_len_more}

pub one_more : {X : Type 0} (f : ℕ → X) (xs ys : List X) (n : ℕ) (x : X) → xs ≡ map f (range_with_len 0 n) → x ≡ f n → ys ≡ xs ++ x ∷ []
    → ys ≡ map f (range_with_len 0 (n + 1))
one_more f xs ys n x so_far at grown =
    grown ∙ ap (λ zs. zs ++ x ∷ []) so_far ∙ ap (λ z. map f (range_with_len 0 n) ++ z ∷ []) at
    ∙ sym (map-range_with_len_more f 0 n n (zero-add n))
