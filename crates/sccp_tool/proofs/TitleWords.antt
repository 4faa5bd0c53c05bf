-- What the words of a title and of octets give.
use Rattle.std.specs.Prelude.{◌≡◌, ◌⊎◌, ◌<◌, ◌≤◌, ℕ, ◌+◌, ◌-◌, ◌*◌, ◌%◌, ◌==◌, ◌&&◌, nat_lt, nat_le, Bool, true, false, cond, List, [], ◌∷◌}
use Rattle.std.specs.Prelude.{length}
use Rattle.std.specs.Prelude.{slice_index, Option, Some, None, Result, Ok, Err, refl, option_and_then}
use Rattle.std.specs.List.{AllByRecursion, range_with_len}
use Rattle.std.specs.Option.{ok_or}
use Rattle.std.specs.Result.{result_ok}
use Rattle.std.proofs.Common.{inl, inr, ◌∙◌, ap, subst, arith}
use Rattle.std.proofs.lemmas.Bool.{and_parts, leb-true, ltb-false, ltb-true}
use Rattle.std.proofs.lemmas.List.FromFn.{length-range_with_len}
use Rattle.std.proofs.lemmas.Option.{option_and_then_some}
use Rattle.hex.specs.Hex.{decode_of, decode_pairs, hex_digit_value, digit_or_error, value_at, pair_value}
use Rattle.hex.specs.Hex as hexes
use Rattle.hex.specs.declared.error.FromHexError.{FromHexError}
use Rattle.hex.specs.declared.error.FromHexError.TheVariants.{OddLength}
use Rattle.sccp_base.proofs.AllOk.{bind_ok, guard_ok, length-all_ok}
use Rattle.sccp_base.specs.Answers.{◌>>=◌, all_ok}
use Rattle.sccp_base.specs.DigitText.{digits_of, digit_at, hex_digit}
use Rattle.sccp_base.specs.Selector.{Numbers, numbers, IsSelector}
use Rattle.sccp_base.specs.Text.{below, byte_of, cut_at, decimal_of, selected, selector_of, selector_by, nature_of, translation_of, plan_of}
use Rattle.sccp_base.specs.Text.{full_of}
use Rattle.sccp_base.specs.declared.digits_fault.DigitsFault.{DigitsFault}
use Rattle.sccp_base.specs.declared.digits_fault.DigitsFault.TheVariants.{TooMany, NotDigit}
use Rattle.trace_text.specs.Hex.{hex_word}

-- ---- what a test lets through

abbrev some : {A : Type 0} → A → Option A
some x = Some x

abbrev none : {A : Type 0} → Option A
none = None

some_is : {A : Type 0} (x y : A) → some x ≡ some y → x ≡ y
some_is x y e = cc

pub let_through : {A : Type 0} (passes : Bool) (x y : A) → cond passes (Some x) None ≡ Some y → (passes ≡ true) × (x ≡ y)
let_through true x y e = (refl, some_is x y e)
let_through false x y e = absurd cc

pub is_below : (limit : ℕ) (o : Option ℕ) (n : ℕ) → below limit o ≡ Some n → n < limit
is_below limit o n e = option_and_then_some (λ x. cond (nat_lt x limit) (Some x) None) o n e (λ x is passed.
    let p = let_through (nat_lt x limit) x n passed in
    subst (λ k. k < limit) p.1 (ltb-true x limit p.0))

-- ---- the selector

-- the numbers that a kind has
abbrev IsUsed : ℕ → ℕ → ℕ → ℕ → Type 0
IsUsed kind translation plan nature =
    ((kind ≡ 1) × (translation ≡ 0) × (plan ≡ 0)) ⊎ ((kind ≡ 2) × (plan ≡ 0) × (nature ≡ 0)) ⊎ ((kind ≡ 3) × (nature ≡ 0)) ⊎ (kind ≡ 4)

is_selected : (kind translation plan nature : ℕ) (s : Numbers) → IsUsed kind translation plan nature → translation < 256
    → selected (numbers kind translation plan nature) ≡ Some s → IsSelector s
is_selected kind translation plan nature s used small e =
    let p = let_through (nat_lt plan 16 && nat_lt nature 128) (numbers kind translation plan nature) s e in
    let q = and_parts (nat_lt plan 16) (nat_lt nature 128) p.0 in
    subst IsSelector p.1 (record {
      used = used;
      translation = small;
      plan = ltb-true plan 16 q.0;
      nature = ltb-true nature 128 q.1;
    })

is_byte : (text : List ℕ) (n : ℕ) → byte_of text ≡ Some n → n < 256
is_byte text n e = is_below 256 (decimal_of 3 text) n e

is_nature : (text : List ℕ) (s : Numbers) → nature_of text ≡ Some s → IsSelector s
is_nature text s e = option_and_then_some (λ n. selected (numbers 1 0 0 n)) (byte_of text) s e
    (λ n is passed. is_selected 1 0 0 n s (inl (refl, refl, refl)) (omega arith) passed)

is_translation : (text : List ℕ) (s : Numbers) → translation_of text ≡ Some s → IsSelector s
is_translation text s e = option_and_then_some (λ t. selected (numbers 2 t 0 0)) (byte_of text) s e
    (λ t is passed. is_selected 2 t 0 0 s (inr (inl (refl, refl, refl))) (is_byte text t is) passed)

is_plan : (text : List ℕ) (s : Numbers) → plan_of text ≡ Some s → IsSelector s
is_plan text s e = option_and_then_some
    (λ parts. option_and_then (λ t. option_and_then (λ p. selected (numbers 3 t p 0)) (byte_of parts.1)) (byte_of parts.0))
    (cut_at 58 text) s e
    (λ parts cut f. option_and_then_some (λ t. option_and_then (λ p. selected (numbers 3 t p 0)) (byte_of parts.1)) (byte_of parts.0) s f
    (λ t is g. option_and_then_some (λ p. selected (numbers 3 t p 0)) (byte_of parts.1) s g
    (λ p also passed. is_selected 3 t p 0 s (inr (inr (inl (refl, refl)))) (is_byte parts.0 t is) passed)))

is_full : (text : List ℕ) (s : Numbers) → full_of text ≡ Some s → IsSelector s
is_full text s e = option_and_then_some (λ first. option_and_then (λ second. numbered first second) (cut_at 58 first.1))
    (cut_at 58 text) s e
    (λ first cut f. option_and_then_some (λ second. numbered first second) (cut_at 58 first.1) s f
    (λ second twice g. option_and_then_some (λ t. with_translation t second) (byte_of first.0) s g
    (λ t is h. option_and_then_some (λ p. with_plan t p second) (byte_of second.0) s h
    (λ p plan i. option_and_then_some (λ n. selected (numbers 4 t p n)) (byte_of second.1) s i
    (λ n nature passed. is_selected 4 t p n s (inr (inr (inr refl))) (is_byte first.0 t is) passed)))))
  where
    with_plan : ℕ → ℕ → List ℕ × List ℕ → Option Numbers
    with_plan t p second = option_and_then (λ n. selected (numbers 4 t p n)) (byte_of second.1)

    with_translation : ℕ → List ℕ × List ℕ → Option Numbers
    with_translation t second = option_and_then (λ p. with_plan t p second) (byte_of second.0)

    numbered : List ℕ × List ℕ → List ℕ × List ℕ → Option Numbers
    numbered first second = option_and_then (λ t. with_translation t second) (byte_of first.0)

by_kind : (kind : ℕ) (rest : List ℕ) (s : Numbers) → selector_by (kind ∷ []) rest ≡ Some s → IsSelector s
by_kind kind rest s e = one (kind == 49) (kind == 50) (kind == 51) (kind == 52) e where
  one : (a b c d : Bool) → cond a (nature_of rest) (cond b (translation_of rest) (cond c (plan_of rest) (cond d (full_of rest) None)))
      ≡ Some s
      → IsSelector s
  one true b c d e = is_nature rest s e
  one false true c d e = is_translation rest s e
  one false false true d e = is_plan rest s e
  one false false false true e = is_full rest s e
  one false false false false e = absurd cc

by_words : (kind rest : List ℕ) (s : Numbers) → selector_by kind rest ≡ Some s → IsSelector s
by_words [] rest s e = absurd cc
by_words (kind ∷ []) rest s e = by_kind kind rest s e
by_words (kind ∷ more ∷ others) rest s e = absurd cc

-- what a text spells is a selector
pub is_selector : (text : List ℕ) (s : Numbers) → selector_of text ≡ Some s → IsSelector s
is_selector text s e = option_and_then_some (λ parts. selector_by parts.0 parts.1) (cut_at 58 text) s e
    (λ parts cut f. by_words parts.0 parts.1 s f)

-- ---- the digits

pub is_ok : {A E : Type 0} (r : Result A E) (x : A) → result_ok r ≡ Some x → r ≡ Ok x
is_ok (Ok y) x e = ap Ok (some_is y x e)
is_ok (Err fault) x e = absurd cc

abbrev ok : {A E : Type 0} → A → Result A E
ok x = Ok x

ok_is : {A E : Type 0} (x y : A) → ok {E = E} x ≡ ok y → x ≡ y
ok_is x y e = cc

-- a value that is given if two tests hold, or else what is left gives one
either : (a b : Bool) (x n : ℕ) (rest : Option ℕ) → (b ≡ true → x < 16) → (rest ≡ Some n → n < 16) → cond (a && b) (Some x) rest ≡ Some n
    → n < 16
either true true x n rest small others e = subst (λ k. k < 16) (some_is x n e) (small refl)
either true false x n rest small others e = others e
either false b x n rest small others e = others e

none_left : (n : ℕ) → none {A = ℕ} ≡ Some n → n < 16
none_left n e = absurd cc

-- the value of a digit is below 16
is_half : (c n : ℕ) → hex_digit c ≡ Some n → n < 16
is_half c n e =
    either (nat_le 48 c) (nat_le c 57) (c - 48) n _ (λ t. let k = leb-true c 57 t in omega (arith, k))
    (either (nat_le 65 c) (nat_le c 70) (c - 65 + 10) n _ (λ t. let k = leb-true c 70 t in omega (arith, k))
    (either (nat_le 97 c) (nat_le c 102) (c - 97 + 10) n _ (λ t. let k = leb-true c 102 t in omega (arith, k)) (none_left n))) e

at_place : (text : List ℕ) (place n : ℕ) → digit_at text place ≡ Ok n → n < 16
at_place text place n e = by (hex_digit (slice_index text place)) refl e where
  by : (o : Option ℕ) → hex_digit (slice_index text place) ≡ o → ok_or o (NotDigit place) ≡ Ok n → n < 16
  by (Some m) is f = is_half (slice_index text place) n (is ∙ ap Some (ok_is {E = DigitsFault} m n f))
  by None is f = absurd cc

each_half : (text places digits : List ℕ) → all_ok (digit_at text) places ≡ Ok digits → AllByRecursion (λ d. d < 16) digits
each_half text [] digits e = subst (AllByRecursion (λ d. d < 16)) (ok_is {E = DigitsFault} [] digits e) tt
each_half text (place ∷ places) digits e =
    let one = bind_ok (digit_at text place) (λ y. all_ok (digit_at text) places >>= λ others. Ok (y ∷ others)) digits e in
    let rest = bind_ok (all_ok (digit_at text) places) (λ others. Ok (one.0 ∷ others)) digits one.2 in
    subst (AllByRecursion (λ d. d < 16)) (ok_is {E = DigitsFault} (one.0 ∷ rest.0) digits rest.2)
    (at_place text place one.0 one.1, each_half text places rest.0 rest.1)

-- a text spells up to 32 digits, each below 16
pub are_digits : (text digits : List ℕ) → digits_of text ≡ Ok digits → (length digits ≤ 32) × AllByRecursion (λ d. d < 16) digits
are_digits text digits e =
    let g = guard_ok (nat_lt 32 (length text)) TooMany (all_ok (digit_at text) (range_with_len 0 (length text))) digits e in
    let same : length digits ≡ length text =
    length-all_ok (digit_at text) (range_with_len 0 (length text)) digits g.1 ∙ length-range_with_len 0 (length text) in
    let few = ltb-false 32 (length text) g.0 in
    (omega (arith, same, few), each_half text (range_with_len 0 (length text)) digits g.1)

-- ---- octets

value_half : (c i n : ℕ) → value_at c i ≡ Ok n → n < 16
value_half c i n e =
    either (nat_le 65 c) (nat_le c 70) (c - 55) n _ (λ t. let k = leb-true c 70 t in omega (arith, k))
    (either (nat_le 97 c) (nat_le c 102) (c - 87) n _ (λ t. let k = leb-true c 102 t in omega (arith, k))
    (either (nat_le 48 c) (nat_le c 57) (c - 48) n _ (λ t. let k = leb-true c 57 t in omega (arith, k)) (none_left n)))
    (from (hex_digit_value c) e)
  where
    from : (o : Option ℕ) → digit_or_error c i o ≡ Ok n → o ≡ Some n
    from (Some m) f = ap Some (ok_is {E = FromHexError} m n f)
    from None f = absurd cc

hex_bind : {A B : Type 0} (r : Result A FromHexError) (f : A → Result B FromHexError) (y : B)
    → hexes.◌>>=◌ r f ≡ Ok y → (x : A) × (r ≡ Ok x) × (f x ≡ Ok y)
hex_bind (Ok x) f y h = (x, refl, h)
hex_bind (Err e) f y h = absurd cc

pair_small : (high low i n : ℕ) → pair_value high low i ≡ Ok n → n < 256
pair_small high low i n e =
    let h = hex_bind (value_at high i) (λ h. hexes.◌>>=◌ (value_at low (i + 1)) (λ l. Ok (h * 16 + l))) n e in
    let l = hex_bind (value_at low (i + 1)) (λ l. Ok (h.0 * 16 + l)) n h.2 in
    let s : h.0 * 16 + l.0 ≡ n = ok_is {E = FromHexError} (h.0 * 16 + l.0) n l.2 in
    let a = value_half high i h.0 h.1 in
    let b = value_half low (i + 1) l.0 l.1 in
    omega (arith, s, a, b)

each_octet : (i : ℕ) (text octets : List ℕ) → decode_pairs i text ≡ Ok octets → AllByRecursion (λ o. o < 256) octets
unfolding decode_pairs
each_octet i [] octets e = subst (AllByRecursion (λ o. o < 256)) (ok_is {E = FromHexError} [] octets e) tt
each_octet i (digit ∷ []) octets e = absurd cc
each_octet i (high ∷ low ∷ rest) octets e =
    let one = hex_bind (pair_value high low i) (λ byte. hexes.◌>>=◌ (decode_pairs (i + 2) rest) (λ bytes. Ok (byte ∷ bytes))) octets e in
    let others = hex_bind (decode_pairs (i + 2) rest) (λ bytes. Ok (one.0 ∷ bytes)) octets one.2 in
    subst (AllByRecursion (λ o. o < 256)) (ok_is {E = FromHexError} (one.0 ∷ others.0) octets others.2)
    (pair_small high low i one.0 one.1, each_octet (i + 2) rest others.0 others.1)

-- what a word of hexadecimal digits spells is octets
pub are_octets : (word octets : List ℕ) → hex_word word ≡ Some octets → AllByRecursion (λ o. o < 256) octets
are_octets [] octets e = absurd cc
are_octets (digit ∷ digits) octets e =
    let d = is_ok (decode_of (digit ∷ digits)) octets e in
    each_octet 0 (digit ∷ digits) octets (even (length (digit ∷ digits) % 2 == 1) d)
  where
    even : (odd : Bool) → cond odd (Err OddLength) (decode_pairs 0 (digit ∷ digits)) ≡ Ok octets
        → decode_pairs 0 (digit ∷ digits) ≡ Ok octets
    even true f = absurd cc
    even false f = f
