-- A text that begins with a piece and goes on with what no piece has: the piece ends in one place only.
-- Its uses are numbers and point codes.
use Rattle.std.specs.Prelude.{ℕ, ◌/◌, ◌%◌, ◌^◌, ◌<◌, ◌≤◌, ◌==◌, if◌then◌else◌, true, false, List, [], ◌∷◌, ◌++◌, drop, decimal}
use Rattle.std.specs.List.{All}
use Rattle.std.specs.Fmt.{digits, digits_onto, digit_glyph}
use Rattle.std.proofs.Common.{◌≡◌, refl, sym, subst, ◌∙◌, ap, arith, zero, suc, get_or, append_assoc}
use Rattle.std.proofs.lemmas.List.Elements.{All-nil, All-cons, All-head, All-tail}
use Rattle.std.proofs.lemmas.Fmt.{decimal_injective}
use Rattle.std.proofs.lemmas.Bool.{lt-ltb}
use Rattle.sccp_report.specs.Values.{point_code_text}

-- nothing, or first what no piece has
abbrev pub Stops : (ℕ → Type 0) → List ℕ → Type 0
Stops P [] = Unit {0}
Stops P (c ∷ cs) = P c → ⊥

pub first_same : (x y : ℕ) (xs ys : List ℕ) → x ∷ xs ≡ y ∷ ys → x ≡ y
first_same x y xs ys e = ap (λ (zs : List ℕ). get_or zs 0 x) e

pub rest_same : (x y : ℕ) (xs ys : List ℕ) → x ∷ xs ≡ y ∷ ys → xs ≡ ys
rest_same x y xs ys e = ap (drop 1) e

-- two such texts that are the same have the same piece, and go on alike
pub parted : (P : ℕ → Type 0) (xs ys r s : List ℕ) → All P xs → All P ys → Stops P r → Stops P s → xs ++ r ≡ ys ++ s → (xs ≡ ys) × (r ≡ s)
parted P [] [] r s hx hy er es e = (refl, e)
parted P [] (y ∷ ys) r s hx hy er es e = absurd (subst (Stops P) e er (All-head P y ys hy))
parted P (x ∷ xs) [] r s hx hy er es e = absurd (subst (Stops P) (sym e) es (All-head P x xs hx))
parted P (x ∷ xs) (y ∷ ys) r s hx hy er es e =
    let first = first_same x y (xs ++ r) (ys ++ s) e in
    let more = parted P xs ys r s (All-tail P x xs hx) (All-tail P y ys hy) er es (rest_same x y (xs ++ r) (ys ++ s) e) in
    ((λ i. first i ∷ more.0 i), more.1)

-- `0` to `9`
abbrev pub IsDecimal : ℕ → Type 0
IsDecimal c = (48 ≤ c) × (c ≤ 57)

glyph_is_decimal : (d : ℕ) → d < 10 → IsDecimal (digit_glyph false d)
glyph_is_decimal d h = rw (lt-ltb d 10 h) (omega arith, omega (arith, h))

digits_are_decimal : (k n : ℕ) (acc : List ℕ) → All IsDecimal acc → All IsDecimal (digits_onto k 10 false n acc)
digits_are_decimal zero n acc h = h
digits_are_decimal (suc k) n acc h =
    let more : All IsDecimal (digit_glyph false (n % 10) ∷ acc) = All-cons IsDecimal (digit_glyph false (n % 10)) acc
    (glyph_is_decimal (n % 10) (omega arith)) h in
    elim (n / 10 == 0) as (λ b. All IsDecimal (if b then digit_glyph false (n % 10) ∷ acc
    else digits_onto k 10 false (n / 10) (digit_glyph false (n % 10) ∷ acc))) [
      | true ↦ more
      | false ↦ digits_are_decimal k (n / 10) (digit_glyph false (n % 10) ∷ acc) more
    ]

pub decimal_digits : (n : ℕ) → All IsDecimal (decimal n)
unfolding digits
decimal_digits n = digits_are_decimal 64 n [] (All-nil IsDecimal)

pub number_parted : (a b : ℕ) (r s : List ℕ) → a < 2 ^ 64 → b < 2 ^ 64 → Stops IsDecimal r → Stops IsDecimal s
    → decimal a ++ r ≡ decimal b ++ s → (a ≡ b) × (r ≡ s)
number_parted a b r s ha hb er es e =
    let p = parted IsDecimal (decimal a) (decimal b) r s (decimal_digits a) (decimal_digits b) er es e in
    (decimal_injective a b ha hb p.0, p.1)

-- `-`, `/`, `:`, `,` and a blank are no digits
pub no_dash : IsDecimal 45 → ⊥
no_dash h = omega (arith, h.0)

pub no_slash : IsDecimal 47 → ⊥
no_slash h = omega (arith, h.0)

pub no_colon : IsDecimal 58 → ⊥
no_colon h = omega (arith, h.1)

pub no_comma : IsDecimal 44 → ⊥
no_comma h = omega (arith, h.0)

pub no_blank : IsDecimal 32 → ⊥
no_blank h = omega (arith, h.0)

-- a number before an octet that is no digit
pub number_before : (c a b : ℕ) (r s : List ℕ) → a < 2 ^ 64 → b < 2 ^ 64 → (IsDecimal c → ⊥) → decimal a ++ c ∷ r ≡ decimal b ++ c ∷ s
    → (a ≡ b) × (r ≡ s)
number_before c a b r s ha hb apart e =
    let p = number_parted a b (c ∷ r) (c ∷ s) ha hb apart apart e in
    (p.0, rest_same c c r s p.1)

-- texts that are put one after another, from the left
pub glued : (t : List ℕ) (c : ℕ) (p r : List ℕ) → t ++ (c ∷ []) ++ p ++ r ≡ t ++ c ∷ (p ++ r)
glued t c p r = append_assoc (t ++ c ∷ []) p r ∙ append_assoc t (c ∷ []) (p ++ r)

point_code_more : (pc : ℕ) (r : List ℕ) → point_code_text pc ++ r ≡ decimal (pc / 2048) ++ 45
    ∷ (decimal (pc / 8 % 256) ++ 45 ∷ (decimal (pc % 8) ++ r))
unfolding point_code_text
point_code_more pc r =
    glued (decimal (pc / 2048) ++ (45 ∷ []) ++ decimal (pc / 8 % 256)) 45 (decimal (pc % 8)) r
    ∙ glued (decimal (pc / 2048)) 45 (decimal (pc / 8 % 256)) (45 ∷ (decimal (pc % 8) ++ r))

pub point_code_parted : (a b : ℕ) (r s : List ℕ) → a < 2 ^ 64 → b < 2 ^ 64 → Stops IsDecimal r → Stops IsDecimal s
    → point_code_text a ++ r ≡ point_code_text b ++ s → (a ≡ b) × (r ≡ s)
point_code_parted a b r s ha hb er es e =
    let whole = sym (point_code_more a r) ∙ e ∙ point_code_more b s in
    let zone = number_before 45 (a / 2048) (b / 2048) _ _ (omega arith) (omega arith) no_dash whole in
    let area = number_before 45 (a / 8 % 256) (b / 8 % 256) _ _ (omega arith) (omega arith) no_dash zone.1 in
    let point = number_parted (a % 8) (b % 8) r s (omega arith) (omega arith) er es area.1 in
    (omega (arith, zone.0, area.0, point.0), point.1)

-- no two numbers have the same text
pub point_codes_apart : (a b : ℕ) → a < 2 ^ 64 → b < 2 ^ 64 → point_code_text a ≡ point_code_text b → a ≡ b
point_codes_apart a b ha hb e = (point_code_parted a b [] [] ha hb tt tt (ap (λ (t : List ℕ). t ++ []) e)).0
