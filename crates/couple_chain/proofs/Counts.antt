-- how many messages of a list pass a test, and what holds of each element
use Rattle.std.specs.Prelude.{ℕ, ◌≡◌, ◌+◌, ◌≤◌, ◌==◌, Bool, true, false, cond, ◌||◌, List, [], ◌∷◌, ◌++◌, length, map, filter, find, Option}
use Rattle.std.specs.Prelude.{Some, None, All, refl}
use Rattle.std.proofs.Common.{suc, ◌∙◌, ap, subst, arith, length-append}
use Rattle.std.proofs.lemmas.List.Elements.{filter-append}
use Rattle.sccp_message.specs.declared.message.Message.{Message}
use Rattle.sccp_message.specs.declared.message.Message.TheVariants as messages
use Rattle.sccp_couple.specs.Events.{Piece, Data, data_of}
use Rattle.couple_chain.specs.Line.{piece_if_for, pieces_for}

-- a DT1 with this DLR, and a CC with it
abbrev pub has_dlr : ℕ → Option Data → Bool
has_dlr dlr None = false
has_dlr dlr (Some d) = d.dlr == dlr

abbrev pub carries : ℕ → Message → Bool
carries dlr message = has_dlr dlr (data_of message)

abbrev pub answers : ℕ → Message → Bool
answers own (messages.Cc dlr slr class params) = dlr == own
answers own _ = false

abbrev pub number : {A : Type 0} → (A → Bool) → List A → ℕ
number p xs = length (filter p xs)

pub number-append : {A : Type 0} (p : A → Bool) (xs ys : List A) → number p (xs ++ ys) ≡ number p xs + number p ys
number-append p xs ys = ap length (filter-append p xs ys) ∙ length-append (filter p xs) (filter p ys)

pub one_of : {A : Type 0} (p : A → Bool) (x : A) → p x ≡ true → number p (x ∷ []) ≡ 1
one_of {A} p x h = ap (λ (b : Bool). length (cond b (x ∷ []) [])) h

pub none_of : {A : Type 0} (p : A → Bool) (x : A) → p x ≡ false → number p (x ∷ []) ≡ 0
none_of {A} p x h = ap (λ (b : Bool). length (cond b (x ∷ []) [])) h

-- fewer pass a stronger test
pub number-or : {A : Type 0} (p q : A → Bool) (xs : List A) → number p xs ≤ number (λ x. p x || q x) xs
number-or p q [] = omega arith
number-or p q (x ∷ xs) =
    let h = number-or p q xs in
    elim (p x) as (λ b. length (cond b (x ∷ filter p xs) (filter p xs))
    ≤ length (cond (b || q x) (x ∷ filter (λ x. p x || q x) xs) (filter (λ x. p x || q x) xs))) [
      | true ↦ omega arith
      | false ↦ elim (q x) as (λ b. length (filter p xs) ≤ length (cond b (x ∷ filter (λ x. p x || q x) xs) (filter (λ x. p x || q x) xs)))
          [ true ↦ omega arith | false ↦ omega arith ]
    ]

pub number-either : {A : Type 0} (p q : A → Bool) (xs : List A) → number (λ x. p x || q x) xs ≤ number p xs + number q xs
number-either p q [] = omega arith
number-either p q (x ∷ xs) =
    let h = number-either p q xs in
    elim (p x) as (λ b. length (cond (b || q x) (x ∷ filter (λ x. p x || q x) xs) (filter (λ x. p x || q x) xs))
    ≤ length (cond b (x ∷ filter p xs) (filter p xs)) + length (cond (q x) (x ∷ filter q xs) (filter q xs))) [
      | true ↦ elim (q x) as (λ b. length (x ∷ filter (λ x. p x || q x) xs)
          ≤ length (x ∷ filter p xs) + length (cond b (x ∷ filter q xs) (filter q xs))) [ true ↦ omega arith | false ↦ omega arith ]
      | false ↦ elim (q x) as (λ b. length (cond b (x ∷ filter (λ x. p x || q x) xs) (filter (λ x. p x || q x) xs))
          ≤ length (filter p xs) + length (cond b (x ∷ filter q xs) (filter q xs))) [ true ↦ omega arith | false ↦ omega arith ]
    ]

pub number-or_right : {A : Type 0} (p q : A → Bool) (xs : List A) → number q xs ≤ number (λ x. p x || q x) xs
number-or_right p q [] = omega arith
number-or_right p q (x ∷ xs) =
    let h = number-or_right p q xs in
    elim (q x) as (λ b. length (cond b (x ∷ filter q xs) (filter q xs))
    ≤ length (cond (p x || b) (x ∷ filter (λ x. p x || q x) xs) (filter (λ x. p x || q x) xs))) [
      | true ↦ elim (p x) as (λ b. length (x ∷ filter q xs)
          ≤ length (cond (b || true) (x ∷ filter (λ x. p x || q x) xs) (filter (λ x. p x || q x) xs)))
          [ true ↦ omega arith | false ↦ omega arith ]
      | false ↦ elim (p x) as (λ b. length (filter q xs)
          ≤ length (cond (b || false) (x ∷ filter (λ x. p x || q x) xs) (filter (λ x. p x || q x) xs)))
          [ true ↦ omega arith | false ↦ omega arith ]
    ]

-- pieces of no DT1 with this DLR
no_piece : (dlr : ℕ) (o : Option Data) → has_dlr dlr o ≡ false → piece_if_for (Some dlr) o ≡ None
no_piece dlr None h = refl
no_piece dlr (Some d) h = flip (dlr == d.dlr) (d.dlr == dlr) (same dlr d.dlr) h d.piece
  where
    same : (m n : ℕ) → (m == n) ≡ (n == m)
    same m n = grind arith

    flip : (a b : Bool) → a ≡ b → b ≡ false → (p : Piece) → cond a (Some p) None ≡ None
    flip a b e h p = ap (λ (c : Bool). cond c (Some p) None) (e ∙ h)

pub no_pieces : (dlr : ℕ) (xs : List Message) → number (carries dlr) xs ≡ 0 → pieces_for (Some dlr) xs ≡ []
no_pieces dlr [] h = refl
no_pieces dlr (x ∷ xs) h =
    elim (carries dlr x) as (λ b. carries dlr x ≡ b → length (cond b (x ∷ filter (carries dlr) xs) (filter (carries dlr) xs)) ≡ 0
    → pieces_for (Some dlr) (x ∷ xs) ≡ []) [
      | true ↦ λ e k. absurd (omega arith)
      | false ↦ λ e k. rw (no_piece dlr (data_of x) e) (no_pieces dlr xs k)
    ] refl h

-- what holds of each element
abbrev pub Each : {A : Type 0} → (A → Type 0) → List A → Type 0
Each P [] = Unit {0}
Each P (x ∷ xs) = P x × Each P xs

pub Each-All : {A : Type 0} (P : A → Type 0) (xs : List A) → All P xs → Each P xs
Each-All P [] h = tt
Each-All P (x ∷ xs) h = (h 0 x (omega arith), Each-All P xs (λ k d lt. h (suc k) d (omega arith)))

pub Each-append : {A : Type 0} (P : A → Type 0) (xs ys : List A) → Each P xs → Each P ys → Each P (xs ++ ys)
Each-append P [] ys h k = k
Each-append P (x ∷ xs) ys h k = (h.0, Each-append P xs ys h.1 k)

pub Each-map : {A : Type 0} (P Q : A → Type 0) (f : A → A) → ((x : A) → P x → Q (f x)) → (xs : List A) → Each P xs → Each Q (map f xs)
Each-map P Q f h [] k = tt
Each-map P Q f h (x ∷ xs) k = (h x k.0, Each-map P Q f h xs k.1)

pub Each-find : {A : Type 0} (P : A → Type 0) (q : A → Bool) (xs : List A) (x : A) → Each P xs → find q xs ≡ Some x → (q x ≡ true) × P x
Each-find P q [] x h e = absurd (cc)
Each-find {A} P q (y ∷ ys) x h e =
    elim (q y) as (λ b. q y ≡ b → cond b (Some y) (find q ys) ≡ Some x → (q x ≡ true) × P x) [
      | true ↦ λ f k. let g : y ≡ x = cc in (subst (λ (z : A). q z ≡ true) g f, subst P g h.0)
      | false ↦ λ f k. Each-find P q ys x h.1 k
    ] refl e
