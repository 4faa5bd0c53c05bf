-- lists without repeats, joined
use Rattle.std.specs.Prelude.{List, [], ◌∷◌, ◌++◌, slice_index_or}
use Rattle.std.specs.List.{All, AllPairs}
use Rattle.std.proofs.Common.{suc, arith}
use Rattle.std.proofs.lemmas.List.Elements.{All-append, All-cons, All-nil}
use Rattle.std.proofs.lemmas.List.Kept.{AllPairs-cons}

pairs_head : {X : Type 0} (R : X → X → Type 0) (x : X) (xs : List X) → AllPairs R (x ∷ xs) → All (R x) xs
pairs_head R x xs pairs = λ k d lt. pairs 0 (suc k) d (omega arith) (omega (arith, lt))

pairs_tail : {X : Type 0} (R : X → X → Type 0) (x : X) (xs : List X) → AllPairs R (x ∷ xs) → AllPairs R xs
pairs_tail R x xs pairs = λ i j d lt within. pairs (suc i) (suc j) d (omega (arith, lt)) (omega (arith, within))

all_left_of : {X : Type 0} (P : X → Type 0) (xs ys : List X) → All P (xs ++ ys) → All P xs
all_left_of P [] ys all = All-nil P
all_left_of P (x ∷ xs) ys all =
    All-cons P x xs (all 0 x (omega arith)) (all_left_of P xs ys (λ k d lt. all (suc k) d (omega (arith, lt))))

all_right_of : {X : Type 0} (P : X → Type 0) (xs ys : List X) → All P (xs ++ ys) → All P ys
all_right_of P [] ys all = all
all_right_of P (x ∷ xs) ys all = all_right_of P xs ys (λ k d lt. all (suc k) d (omega (arith, lt)))

pub pairs_none : {X : Type 0} (R : X → X → Type 0) → AllPairs R []
pairs_none R i j d lt within = absurd (omega (arith, within))

pub pairs_append : {X : Type 0} (R : X → X → Type 0) (xs ys : List X) → AllPairs R xs → AllPairs R ys → All (λ x. All (R x) ys) xs
    → AllPairs R (xs ++ ys)
pairs_append R [] ys p q between = q
pairs_append R (x ∷ xs) ys p q between =
    AllPairs-cons R x (xs ++ ys) (All-append (R x) xs ys (pairs_head R x xs p) (between 0 x (omega arith)))
    (pairs_append R xs ys (pairs_tail R x xs p) q (λ k d lt. between (suc k) d (omega (arith, lt))))

pub pairs_map : {X : Type 0} (R S : X → X → Type 0) (xs : List X) → ((x y : X) → R x y → S x y) → AllPairs R xs → AllPairs S xs
pairs_map R S xs h pairs = λ i j d lt within. h (slice_index_or xs i d) (slice_index_or xs j d) (pairs i j d lt within)

pub pairs_left : {X : Type 0} (R : X → X → Type 0) (xs ys : List X) → AllPairs R (xs ++ ys) → AllPairs R xs
pairs_left R [] ys pairs = pairs_none R
pairs_left R (x ∷ xs) ys pairs =
    AllPairs-cons R x xs (all_left_of (R x) xs ys (pairs_head R x (xs ++ ys) pairs)) (pairs_left R xs ys (pairs_tail R x (xs ++ ys) pairs))

pub pairs_right : {X : Type 0} (R : X → X → Type 0) (xs ys : List X) → AllPairs R (xs ++ ys) → AllPairs R ys
pairs_right R [] ys pairs = pairs
pairs_right R (x ∷ xs) ys pairs = pairs_right R xs ys (pairs_tail R x (xs ++ ys) pairs)

pub pairs_between : {X : Type 0} (R : X → X → Type 0) (xs ys : List X) → AllPairs R (xs ++ ys) → All (λ x. All (R x) ys) xs
pairs_between R [] ys pairs = All-nil (λ x. All (R x) ys)
pairs_between R (x ∷ xs) ys pairs =
    All-cons (λ x. All (R x) ys) x xs (all_right_of (R x) xs ys (pairs_head R x (xs ++ ys) pairs))
    (pairs_between R xs ys (pairs_tail R x (xs ++ ys) pairs))
