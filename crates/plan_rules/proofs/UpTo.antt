-- The order of lists of numbers, from a place on.
use Rattle.std.specs.Prelude.{ℕ, ◌≡◌, ◌≢◌, ◌<◌, ◌≤◌, ◌+◌, ◌==◌, ◌&&◌, ◌||◌, nat_lt, Bool, true, false, List, length, drop, refl}
use Rattle.std.proofs.Common.{get_or, drop-cons, add-one, arith, ◌∙◌}
use Rattle.std.proofs.lemmas.Bool.{eq-eqb, ne_eqb, le-ltb}
use Rattle.std.proofs.lemmas.List.{drop_all}
use Rattle.plan_rules.specs.Order.{up_to}

-- the second list has ended
pub up_to_ended : (a b : List ℕ) (i : ℕ) → i < length a → length b ≤ i → up_to (drop i a) (drop i b) ≡ false
up_to_ended a b i inside past = rw (drop-cons a i 0 inside, drop_all i b past) refl

-- the first list has ended
pub up_to_over : (a b : List ℕ) (i : ℕ) → length a ≤ i → up_to (drop i a) (drop i b) ≡ true
up_to_over a b i past = rw (drop_all i a past) refl

-- both have a number there
both_at : (a b : List ℕ) (i : ℕ) → i < length a → i < length b → up_to (drop i a) (drop i b)
    ≡ (nat_lt (get_or a i 0) (get_or b i 0) || (get_or a i 0 == get_or b i 0 && up_to (drop (i + 1) a) (drop (i + 1) b)))
both_at a b i inside within = rw (drop-cons a i 0 inside, drop-cons b i 0 within, add-one i) refl

or_no : (a : Bool) → (a || false) ≡ a
or_no true = refl
or_no false = refl

apart : (x y : ℕ) (rest : Bool) → x ≢ y → (nat_lt x y || (x == y && rest)) ≡ nat_lt x y
apart x y rest other = rw (ne_eqb x y other) (or_no (nat_lt x y))

tied : (x y : ℕ) (rest : Bool) → x ≡ y → (nat_lt x y || (x == y && rest)) ≡ rest
tied x y rest same = rw (eq-eqb x y same, le-ltb x y (omega arith)) refl

-- they differ
pub up_to_apart : (a b : List ℕ) (i : ℕ) → i < length a → i < length b → get_or a i 0 ≢ get_or b i 0
    → up_to (drop i a) (drop i b) ≡ nat_lt (get_or a i 0) (get_or b i 0)
up_to_apart a b i inside within other =
    both_at a b i inside within ∙ apart (get_or a i 0) (get_or b i 0) (up_to (drop (i + 1) a) (drop (i + 1) b)) other

-- they are the same
pub up_to_tied : (a b : List ℕ) (i : ℕ) → i < length a → i < length b → get_or a i 0 ≡ get_or b i 0
    → up_to (drop i a) (drop i b) ≡ up_to (drop (i + 1) a) (drop (i + 1) b)
up_to_tied a b i inside within same =
    both_at a b i inside within ∙ tied (get_or a i 0) (get_or b i 0) (up_to (drop (i + 1) a) (drop (i + 1) b)) same
