-- relays of sets
use Rattle.std.specs.Prelude.{ℕ, ◌≡◌, ◌⊎◌, ◌<◌, Bool, true, false, ◌||◌, not, ◌==◌, List, [], ◌∷◌, ◌++◌, length, refl}
use Rattle.std.specs.List.{All}
use Rattle.std.proofs.Common.{sym, ◌∙◌, ap, subst, inl, inr, ⊎_elim, take, get_or, ◌+◌}
use Rattle.std.proofs.lemmas.Bool.{or_cases, cases_Bool, false≢true, eq-eqb, eqb-true}
use Rattle.std.proofs.Math.Bool.{or-true}
use Rattle.std.proofs.lemmas.List.{take_more}
use Rattle.std.proofs.lemmas.List.Elements.{All-cons, All-nil, All-append}
use Rattle.std.proofs.lemmas.List.Folds.{list_any-append}
use Rattle.sccp_base.proofs.Among.{Among, All-among, Among-filter, Among-unfilter, Among-get_or}
use Rattle.plan_order.specs.Sets.{is_in}
use Rattle.plan_order.specs.Searching.{is_out, without}

pub in-append : (xs ys : List ℕ) (n : ℕ) → is_in (xs ++ ys) n ≡ (is_in xs n || is_in ys n)
in-append xs ys n = list_any-append (λ (own : ℕ). own == n) xs ys

pub in-left : (xs ys : List ℕ) (n : ℕ) → is_in xs n ≡ true → is_in (xs ++ ys) n ≡ true
in-left xs ys n h = in-append xs ys n ∙ ap (λ (b : Bool). b || is_in ys n) h

pub in-right : (xs ys : List ℕ) (n : ℕ) → is_in ys n ≡ true → is_in (xs ++ ys) n ≡ true
in-right xs ys n h = in-append xs ys n ∙ ap (λ (b : Bool). is_in xs n || b) h ∙ or-true (is_in xs n)

pub in-either : (xs ys : List ℕ) (n : ℕ) → is_in (xs ++ ys) n ≡ true → (is_in xs n ≡ true) ⊎ (is_in ys n ≡ true)
in-either xs ys n h = or_cases (is_in xs n) (is_in ys n) (sym (in-append xs ys n) ∙ h)

pub out-both : (xs ys : List ℕ) (n : ℕ) → is_in xs n ≡ false → is_in ys n ≡ false → is_in (xs ++ ys) n ≡ false
out-both xs ys n h k = in-append xs ys n ∙ ap (λ (b : Bool). b || is_in ys n) h ∙ k

-- a list that is joined with another that does not have the relay
pub in-first : (xs ys : List ℕ) (n : ℕ) → is_in ys n ≡ false → is_in (xs ++ ys) n ≡ is_in xs n
in-first xs ys n h = by (is_in xs n) refl
  where
    by : (b : Bool) → is_in xs n ≡ b → is_in (xs ++ ys) n ≡ is_in xs n
    by true e = in-left xs ys n e ∙ sym e
    by false e = out-both xs ys n e h ∙ sym e

-- the relays of a list, by recursion
pub among-in : (xs : List ℕ) (n : ℕ) → is_in xs n ≡ true → Among n xs
among-in [] n h = absurd (false≢true h)
among-in (x ∷ xs) n h = ⊎_elim (λ e. inl (eqb-true x n e)) (λ later. inr (among-in xs n later)) (or_cases (x == n) (is_in xs n) h)

pub in-among : (xs : List ℕ) (n : ℕ) → Among n xs → is_in xs n ≡ true
in-among [] n m = absurd m
in-among (x ∷ xs) n m =
    ⊎_elim (λ (e : x ≡ n). ap (λ (b : Bool). b || is_in xs n) (eq-eqb x n e))
    (λ (later : Among n xs). ap (λ (b : Bool). (x == n) || b) (in-among xs n later) ∙ or-true (x == n)) m

pub in-one : (m n : ℕ) → is_in (m ∷ []) n ≡ true → m ≡ n
in-one m n h = ⊎_elim (λ (e : m ≡ n). e) (λ (none : ⊥). absurd none) (among-in (m ∷ []) n h)

pub own-one : (m : ℕ) → is_in (m ∷ []) m ≡ true
own-one m = in-among (m ∷ []) m (inl refl)

-- another relay is not the only one of a list
pub out-one : (m n : ℕ) → (m ≡ n → ⊥) → is_in (m ∷ []) n ≡ false
out-one m n other = ⊎_elim (λ h. absurd (other (in-one m n h))) (λ h. h) (cases_Bool (is_in (m ∷ []) n))

pub in-All : (P : ℕ → Type 0) (xs : List ℕ) (n : ℕ) → All P xs → is_in xs n ≡ true → P n
in-All P xs n all h = All-among P n xs all (among-in xs n h)

pub All-in : (P : ℕ → Type 0) (xs : List ℕ) → ((n : ℕ) → is_in xs n ≡ true → P n) → All P xs
All-in P [] h = All-nil P
All-in P (x ∷ xs) h =
    All-cons P x xs (h x (in-among (x ∷ xs) x (inl refl)))
    (All-in P xs (λ n m. h n (in-among (x ∷ xs) n (inr (among-in xs n m)))))

not-false : (b : Bool) → not b ≡ true → b ≡ false
not-false true h = sym h
not-false false h = refl

-- the relays that are left after a step
pub in-without : (left step : List ℕ) (n : ℕ) → is_in (without left step) n ≡ true → (is_in left n ≡ true) × (is_in step n ≡ false)
in-without left step n h =
    let k = Among-unfilter (is_out step) n left (among-in (without left step) n h) in
    (in-among left n k.0, not-false (is_in step n) k.1)

pub without-in : (left step : List ℕ) (n : ℕ) → is_in left n ≡ true → is_in step n ≡ false → is_in (without left step) n ≡ true
without-in left step n h out = in-among (without left step) n (Among-filter (is_out step) n left (ap not out) (among-in left n h))

-- the relay at a place of a list
pub in-at : (xs : List ℕ) (i : ℕ) → i < length xs → is_in xs (get_or xs i 0) ≡ true
in-at xs i lt = in-among xs (get_or xs i 0) (Among-get_or xs i 0 lt)

-- one more relay of those for which something holds
pub all_more : (P : ℕ → Type 0) (xs : List ℕ) (i : ℕ) → i < length xs → All P (take i xs) → P (get_or xs i 0)
    → All P (take (i + 1) xs)
all_more P xs i lt all one =
    subst (All P) (sym (take_more xs i 0 lt))
    (All-append P (take i xs) (get_or xs i 0 ∷ []) all (All-cons P (get_or xs i 0) [] one (All-nil P)))
