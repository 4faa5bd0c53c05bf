-- numbers of which none is that of an earlier one
use Rattle.std.specs.Prelude.{ℕ, ◌≡◌, ◌≢◌, ◌+◌, ◌<◌, ◌≤◌, false, ◌==◌, List, length, take, Option}
use Rattle.std.specs.List.{AllPairs, list_any}
use Rattle.std.proofs.Common.{sym, ◌∙◌, ap, subst, get_or, take_all}
use Rattle.std.proofs.lemmas.Bool.{false≢true, eq-eqb}
use Rattle.std.proofs.lemmas.List.{take_more}
use Rattle.std.specs.Option.{unwrap_or}
use Rattle.std.proofs.lemmas.Option.{slice_get-get_or}
use Rattle.std.proofs.lemmas.List.Quantifiers.{all_pairs_push}
use Rattle.sccp_base.proofs.Among.{Among-get_or, list_any-none}

-- an element is read with any default
pub any_default : (xs : List ℕ) (i : ℕ) → i < length xs → get_or xs i 0 ≡ get_or xs i (get_or xs i 0)
any_default xs i lt = ap (λ (o : Option ℕ). unwrap_or o 0) (sym (slice_get-get_or xs i 0 lt) ∙ slice_get-get_or xs i (get_or xs i 0) lt)

pub distinct_more : (xs : List ℕ) (i x : ℕ) → i < length xs → x ≡ get_or xs i x → list_any (λ y. y == x) (take i xs) ≡ false
    → AllPairs (λ a b. a ≢ b) (take i xs) → AllPairs (λ a b. a ≢ b) (take (i + 1) xs)
distinct_more xs i x lt at none pairs =
    rw (take_more xs i x lt)
    (all_pairs_push (λ a b. a ≢ b) (take i xs) (get_or xs i x) pairs
    (λ k d inside same.
    false≢true (sym (list_any-none (λ y. y == x) (get_or (take i xs) k d) (take i xs) none (Among-get_or (take i xs) k d inside))
    ∙ eq-eqb (get_or (take i xs) k d) x (same ∙ sym at))))

pub distinct_whole : (xs : List ℕ) (i : ℕ) → length xs ≤ i → AllPairs (λ a b. a ≢ b) (take i xs) → AllPairs (λ a b. a ≢ b) xs
distinct_whole xs i le pairs = subst (λ (ys : List ℕ). AllPairs (λ a b. a ≢ b) ys) (take_all i xs le) pairs
