-- Numbers and octets that are printed have neither a line feed nor a carriage return, whatever they are, and no number has more
-- than 64 digits.
use Rattle.std.proofs.Common.{◌≡◌, ℕ, zero, suc, ◌+◌, ◌/◌, ◌%◌, ◌<◌, ◌≤◌, Bool, true, false, cond, eqb, List, [], ◌∷◌, length, refl, arith}
use Rattle.std.specs.Prelude.{slice_index, decimal}
use Rattle.std.specs.Fmt.{digits, digits_onto, digit_glyph}
use Rattle.std.proofs.lemmas.Bool.{lt-ltb, ne_eqb}
use Rattle.hex.specs.Hex.{encode_with, encode_upper, upper_digits}
use Rattle.m3ua_trace.proofs.Plain.{is_plain, IsPlain}

plain_cons : (x : ℕ) (xs : List ℕ) → is_plain x ≡ true → IsPlain xs → IsPlain (x ∷ xs)
plain_cons x xs p q = rw (p, q) refl

-- ---- decimal digits

digit_plain : (d : ℕ) → is_plain (48 + d) ≡ true
digit_plain d = rw (ne_eqb (48 + d) 10 (λ e. omega (arith, e)), ne_eqb (48 + d) 13 (λ e. omega (arith, e))) refl

glyph_plain : (d : ℕ) → d < 10 → is_plain (digit_glyph false d) ≡ true
glyph_plain d lt = rw (lt-ltb d 10 lt) (digit_plain d)

either_plain : (b : Bool) (xs ys : List ℕ) → IsPlain xs → IsPlain ys → IsPlain (cond b xs ys)
either_plain true xs ys p q = p
either_plain false xs ys p q = q

onto_plain : (most n : ℕ) (acc : List ℕ) → IsPlain acc → IsPlain (digits_onto most 10 false n acc)
onto_plain zero n acc h = h
onto_plain (suc most) n acc h =
    let one : List ℕ = digit_glyph false (n % 10) ∷ acc in
    let first : IsPlain one = plain_cons (digit_glyph false (n % 10)) acc (glyph_plain (n % 10) (omega arith)) h in
    either_plain (eqb (n / 10) 0) one (digits_onto most 10 false (n / 10) one) first (onto_plain most (n / 10) one first)

pub plain_number : (n : ℕ) → IsPlain (decimal n)
unfolding digits
plain_number n = onto_plain 64 n [] refl

either_short : (most : ℕ) (b : Bool) (xs ys : List ℕ) → length xs ≤ most → length ys ≤ most → length (cond b xs ys) ≤ most
either_short most true xs ys p q = p
either_short most false xs ys p q = q

onto_short : (most n : ℕ) (acc : List ℕ) → length (digits_onto most 10 false n acc) ≤ most + length acc
onto_short zero n acc = omega arith
onto_short (suc most) n acc =
    let one : List ℕ = digit_glyph false (n % 10) ∷ acc in
    either_short (suc most + length acc) (eqb (n / 10) 0) one (digits_onto most 10 false (n / 10) one) (omega arith)
    (omega (arith, onto_short most (n / 10) one))

pub short_number : (n : ℕ) → length (decimal n) ≤ 64
unfolding digits
short_number n = onto_short 64 n []

-- ---- hexadecimal digits, of any number; there is no digit above 15

half_plain : (i : ℕ) → is_plain (slice_index upper_digits i) ≡ true
half_plain zero = refl
half_plain (suc zero) = refl
half_plain (suc (suc zero)) = refl
half_plain (suc (suc (suc zero))) = refl
half_plain (suc (suc (suc (suc zero)))) = refl
half_plain (suc (suc (suc (suc (suc zero))))) = refl
half_plain (suc (suc (suc (suc (suc (suc zero)))))) = refl
half_plain (suc (suc (suc (suc (suc (suc (suc zero))))))) = refl
half_plain (suc (suc (suc (suc (suc (suc (suc (suc zero)))))))) = refl
half_plain (suc (suc (suc (suc (suc (suc (suc (suc (suc zero))))))))) = refl
half_plain (suc (suc (suc (suc (suc (suc (suc (suc (suc (suc zero)))))))))) = refl
half_plain (suc (suc (suc (suc (suc (suc (suc (suc (suc (suc (suc zero))))))))))) = refl
half_plain (suc (suc (suc (suc (suc (suc (suc (suc (suc (suc (suc (suc zero)))))))))))) = refl
half_plain (suc (suc (suc (suc (suc (suc (suc (suc (suc (suc (suc (suc (suc zero))))))))))))) = refl
half_plain (suc (suc (suc (suc (suc (suc (suc (suc (suc (suc (suc (suc (suc (suc zero)))))))))))))) = refl
half_plain (suc (suc (suc (suc (suc (suc (suc (suc (suc (suc (suc (suc (suc (suc (suc zero))))))))))))))) = refl
half_plain (suc (suc (suc (suc (suc (suc (suc (suc (suc (suc (suc (suc (suc (suc (suc (suc i)))))))))))))))) = refl

pub plain_hex : (octets : List ℕ) → IsPlain (encode_upper octets)
unfolding encode_with
plain_hex [] = refl
plain_hex (octet ∷ octets) =
    let low : ℕ = slice_index upper_digits (octet % 16) in
    plain_cons (slice_index upper_digits (octet / 16)) (low ∷ encode_upper octets) (half_plain (octet / 16))
    (plain_cons low (encode_upper octets) (half_plain (octet % 16)) (plain_hex octets))
