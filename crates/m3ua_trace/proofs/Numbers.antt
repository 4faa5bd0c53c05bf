-- Numbers that are printed in decimal digits are read again.
use Rattle.std.proofs.Common.{◌≡◌, ℕ, ◌+◌, ◌-◌, ◌*◌, ◌/◌, ◌%◌, ◌^◌, ◌<◌, ◌≤◌, Bool, true, leb, eqb, ◌||◌, List}
use Rattle.std.proofs.Common.{[], ◌∷◌, ◌++◌, length, Option, Some, refl, ◌∙◌, ap, append_assoc, length-append, arith}
use Rattle.std.proofs.Math.Dec.{eqb-suc-zero}
use Rattle.std.specs.Prelude.{◌==◌}
use Rattle.std.specs.Fmt.{decimal}
use Rattle.std.specs.List.{list_all, fold}
use Rattle.std.specs.Char.{is_ascii_digit}
use Rattle.std.proofs.lemmas.Bool.{and_from, and_parts, le-leb, lt-ltb}
use Rattle.std.proofs.lemmas.List.Folds.{list_all-append}
use Rattle.std.proofs.lemmas.List.Sums.{fold-append}
use Rattle.std.proofs.lemmas.Fmt.{decimal_by_steps, length-decimal-le, decimal_nonempty}
use Rattle.sccp_base.specs.Text.{cut_at, spelled, decimal_of, below, point_code_by, point_code_from, point_code_in, point_code_of}
use Rattle.sccp_report.specs.Values.{point_code_text}
use Rattle.m3ua_trace.proofs.Fields.{cut_front}

-- decimal digits that spell a number
record Spells (n : ℕ) (ds : List ℕ) : Type 0 where
  digits : list_all is_ascii_digit ds ≡ true
  number : spelled ds ≡ n

digit : (d : ℕ) → d < 10 → is_ascii_digit (48 + d) ≡ true
digit d lt = and_from (leb 48 (48 + d)) (leb (48 + d) 57) (le-leb 48 (48 + d) (omega arith)) (le-leb (48 + d) 57 (omega arith))

one_digit : (n : ℕ) → n < 10 → Spells n ((48 + n) ∷ [])
one_digit n lt = record { digits = rw (digit n lt) refl; number = omega arith }

more_digits : (n : ℕ) (ds : List ℕ) → 10 ≤ n → Spells (n / 10) ds → Spells n (ds ++ ((48 + n % 10) ∷ []))
more_digits n ds le h = record {
  digits = list_all-append is_ascii_digit ds ((48 + n % 10) ∷ []) ∙ rw (h.digits, digit (n % 10) (omega arith)) refl;
  number = fold-append (λ v c. 10 * v + (c - 48)) 0 ds ((48 + n % 10) ∷ []) ∙ ap (λ (v : ℕ). 10 * v + (48 + n % 10 - 48)) h.number
      ∙ omega arith;
}

spells : (n : ℕ) → n < 2 ^ 64 → Spells n (decimal n)
spells n lt = decimal_by_steps Spells one_digit more_digits n lt

pub digits-decimal : (n : ℕ) → n < 2 ^ 64 → list_all is_ascii_digit (decimal n) ≡ true
digits-decimal n lt = (spells n lt).digits

some_digits : (ds : List ℕ) (n most : ℕ) → 0 < length ds → length ds ≤ most → list_all is_ascii_digit ds ≡ true → spelled ds ≡ n
    → decimal_of most ds ≡ Some n
some_digits [] n most some le digits number = absurd (omega arith)
some_digits (d ∷ ds) n most some le digits number = rw (eqb-suc-zero (length ds), le-leb (length (d ∷ ds)) most le, digits) (ap Some number)

pub decimal_of-decimal : (n : ℕ) → n < 1000 → decimal_of 3 (decimal n) ≡ Some n
decimal_of-decimal n lt =
    some_digits (decimal n) n 3 (decimal_nonempty n (omega arith)) (length-decimal-le 3 n (omega arith) lt (omega arith))
    (digits-decimal n (omega arith)) (spells n (omega arith)).number

below_is : (limit n : ℕ) (read : Option ℕ) → read ≡ Some n → n < limit → below limit read ≡ Some n
below_is limit n read e lt = rw (e, lt-ltb n limit lt) refl

three_numbers : (z a p : ℕ) → z < 8 → a < 256 → p < 8 → point_code_by (decimal z) (decimal a) (decimal p) ≡ Some (2048 * z + 8 * a + p)
three_numbers z a p zone area point =
    rw (
      below_is 8 z (decimal_of 3 (decimal z)) (decimal_of-decimal z (omega arith)) zone,
      below_is 256 a (decimal_of 3 (decimal a)) (decimal_of-decimal a (omega arith)) area,
      below_is 8 p (decimal_of 3 (decimal p)) (decimal_of-decimal p (omega arith)) point,
    ) refl

parted : (z a p : ℕ) → z < 8 → a < 256 → p < 8 → point_code_of (decimal z ++ 45 ∷ (decimal a ++ 45 ∷ decimal p))
    ≡ Some (2048 * z + 8 * a + p)
parted z a p zone area point =
    let first : cut_at 45 (decimal z ++ 45 ∷ (decimal a ++ 45 ∷ decimal p)) ≡ Some (decimal z, decimal a ++ 45 ∷ decimal p) =
    cut_front is_ascii_digit 45 (decimal z) (decimal a ++ 45 ∷ decimal p) refl (digits-decimal z (omega arith)) in
    let second : cut_at 45 (decimal a ++ 45 ∷ decimal p) ≡ Some (decimal a, decimal p) =
    cut_front is_ascii_digit 45 (decimal a) (decimal p) refl (digits-decimal a (omega arith)) in
    ap (point_code_in (decimal z ++ 45 ∷ (decimal a ++ 45 ∷ decimal p))) first ∙ ap (point_code_from (decimal z)) second
    ∙ three_numbers z a p zone area point

text_is : (pc : ℕ) → point_code_text pc ≡ decimal (pc / 2048) ++ 45 ∷ (decimal (pc / 8 % 256) ++ 45 ∷ decimal (pc % 8))
unfolding point_code_text
text_is pc = simp append_assoc

-- a point code that is printed is read again
pub point-again : (pc : ℕ) → pc < 16384 → point_code_of (point_code_text pc) ≡ Some pc
point-again pc lt =
    let z : ℕ = pc / 2048 in
    let a : ℕ = pc / 8 % 256 in
    let p : ℕ = pc % 8 in
    let whole : 2048 * z + 8 * a + p ≡ pc = omega arith in
    ap point_code_of (text_is pc) ∙ parted z a p (omega arith) (omega arith) (omega arith) ∙ ap Some whole

-- a decimal digit or a hyphen
abbrev pub is_point_octet : ℕ → Bool
is_point_octet octet = is_ascii_digit octet || (octet == 45)

digits_pass : (ds : List ℕ) → list_all is_ascii_digit ds ≡ true → list_all is_point_octet ds ≡ true
digits_pass [] each = refl
digits_pass (d ∷ ds) each =
    let p = and_parts (is_ascii_digit d) (list_all is_ascii_digit ds) each in
    rw (p.0, digits_pass ds p.1) refl

pub point_octets : (pc : ℕ) → pc < 16384 → list_all is_point_octet (point_code_text pc) ≡ true
unfolding point_code_text
point_octets pc lt =
    let pass = λ (n : ℕ) (small : n < 2 ^ 64). digits_pass (decimal n) (digits-decimal n small) in
    let z : ℕ = pc / 2048 in
    let a : ℕ = pc / 8 % 256 in
    let p : ℕ = pc % 8 in
    simp (list_all-append, pass z (omega arith), pass a (omega arith), pass p (omega arith)) refl

pub length-three : (n : ℕ) → n < 1000 → length (decimal n) ≤ 3
length-three n lt = length-decimal-le 3 n (omega arith) lt (omega arith)

-- a point code has at most eleven octets
pub length-point : (pc : ℕ) → pc < 16384 → length (point_code_text pc) ≤ 11
length-point pc lt =
    let z : ℕ = pc / 2048 in
    let a : ℕ = pc / 8 % 256 in
    let p : ℕ = pc % 8 in
    let e : length (point_code_text pc) ≡ length (decimal z ++ 45 ∷ (decimal a ++ 45 ∷ decimal p)) = ap length (text_is pc) in
    omega (
      arith,
      e,
      length-three z (omega arith),
      length-three a (omega arith),
      length-three p (omega arith),
      length-append (decimal z)
          (45 ∷ (decimal a ++ 45 ∷ decimal p)),
      length-append (decimal a) (45 ∷ decimal p),
    )
