-- Half-octets, and digits as octets.
use Rattle.std.proofs.Common.{◌≡◌, ℕ, zero, suc, ◌+◌, ◌*◌, ◌-◌, ◌/◌, ◌%◌, ◌<◌, ◌≤◌, Bool, true, false, cond, leb, Ok, Err, List, [], ◌∷◌}
use Rattle.std.proofs.Common.{◌++◌, length, get_or, take, refl, ap, subst, arith}
use mir.Val.{bool_byte}
use Rattle.std.proofs.lemmas.Bool.{le-leb, lt-leb}
use Rattle.std.proofs.lemmas.List.{length-take}
use Rattle.sccp_base.specs.Bcd.{halves, unpacked, packed}

pub length-halves : (os : List ℕ) → length (halves os) ≡ 2 * length os
length-halves [] = refl
length-halves (o ∷ os) = omega (arith, length-halves os)

get_or-halves_low : (os : List ℕ) (k : ℕ) → get_or (halves os) (2 * k) 0 ≡ get_or os k 0 % 16
get_or-halves_low [] k = refl
get_or-halves_low (o ∷ os) zero = refl
get_or-halves_low (o ∷ os) (suc k) = let two : 2 * suc k ≡ suc (suc (2 * k)) = omega arith in rw two (get_or-halves_low os k)

get_or-halves_high : (os : List ℕ) (k : ℕ) → get_or (halves os) (2 * k + 1) 0 ≡ get_or os k 0 / 16
get_or-halves_high [] k = refl
get_or-halves_high (o ∷ os) zero = refl
get_or-halves_high (o ∷ os) (suc k) = let two : 2 * suc k + 1 ≡ suc (suc (2 * k + 1)) = omega arith in rw two (get_or-halves_high os k)

pub low_half : (os : List ℕ) (place : ℕ) → place % 2 ≡ 0 → get_or (halves os) place 0 ≡ get_or os (place / 2) 0 % 16
low_half os place e =
    let even : 2 * (place / 2) ≡ place = omega arith in
    subst (λ (p : ℕ). get_or (halves os) p 0 ≡ get_or os (place / 2) 0 % 16) even (get_or-halves_low os (place / 2))

pub high_half : (os : List ℕ) (place : ℕ) → (place % 2 ≡ 0 → ⊥) → get_or (halves os) place 0 ≡ get_or os (place / 2) 0 / 16
high_half os place e =
    let odd : 2 * (place / 2) + 1 ≡ place = omega arith in
    subst (λ (p : ℕ). get_or (halves os) p 0 ≡ get_or os (place / 2) 0 / 16) odd (get_or-halves_high os (place / 2))

pub length-unpacked : (os : List ℕ) (odd : Bool) → length (unpacked os odd) ≡ 2 * length os - cond odd 1 0
length-unpacked os odd = omega (arith, length-halves os, length-take (2 * length os - cond odd 1 0) (halves os))

-- at most 32 digits, or the fault
pub in_places : {E : Type 0} (ds : List ℕ) (e : E) → length ds ≤ 32 → cond (leb (length ds) 32) (Ok ds) (Err e) ≡ Ok ds
in_places ds e le = rw (le-leb (length ds) 32 le) refl

pub too_many : {E : Type 0} (ds : List ℕ) (e : E) → 32 < length ds → cond (leb (length ds) 32) (Ok ds) (Err e) ≡ Err e
too_many ds e lt = rw (lt-leb (length ds) 32 lt) refl

pub bool_byte_is : (b : Bool) → bool_byte b ≡ cond b 1 0
bool_byte_is true = refl
bool_byte_is false = refl

-- one more pair of digits
pub packed_more : (ds : List ℕ) (i : ℕ) → 2 * i < length ds
    → packed (take (2 * i) ds) ++ (get_or ds (2 * i) 0 + 16 * get_or ds (2 * i + 1) 0) ∷ [] ≡ packed (take (2 * (i + 1)) ds)
packed_more [] i lt = absurd (omega arith)
packed_more (d ∷ []) zero lt = let alone : d + 16 * 0 ≡ d = omega arith in ap (λ (n : ℕ). n ∷ []) alone
packed_more (d ∷ []) (suc i) lt = absurd (omega arith)
packed_more (d ∷ e ∷ ds) zero lt = refl
packed_more (d ∷ e ∷ ds) (suc i) lt =
    let now : 2 * suc i ≡ suc (suc (2 * i)) = omega arith in
    let next : 2 * (suc i + 1) ≡ suc (suc (2 * (i + 1))) = omega arith in
    let after : 2 * suc i + 1 ≡ suc (suc (2 * i + 1)) = omega arith in
    rw (after, next, now) (ap (λ (os : List ℕ). (d + 16 * e) ∷ os) (packed_more ds i (omega arith)))
