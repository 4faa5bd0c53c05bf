-- Texts of one line.
use Rattle.std.proofs.Common.{◌≡◌, ℕ, zero, suc, ◌-◌, ◌^◌, ◌<◌, Bool, true, false, eqb, not, ◌&&◌, List, [], ◌∷◌, ◌++◌}
use Rattle.std.proofs.Common.{length, get_or, refl, ◌∙◌}
use Rattle.std.specs.Prelude.{decimal, ◌==◌}
use Rattle.std.specs.Char.{is_ascii_digit}
use Rattle.std.specs.List.{All, list_all}
use Rattle.std.proofs.lemmas.Bool.{and_parts}
use Rattle.std.proofs.lemmas.List.Folds.{list_all-append}
use Rattle.std.proofs.lemmas.List.Elements.{All-nil, All-cons}
use Rattle.std.proofs.lemmas.List.Sums.{list_all-from_AllPass}
use Rattle.hex.specs.Hex.{encode_upper, is_hex_digit, IsBytes}
use Rattle.hex.proofs.HexLemmas.{decode_of-encode_upper, decode_of-ok}
use Rattle.sccp_base.specs.Names.{IsName, is_name_octet}
use Rattle.sccp_report.specs.Values.{point_code_text}
use Rattle.trace_text.specs.Lines.{is_line_feed, without_return}
use Rattle.m3ua_trace.proofs.Fields.{other}
use Rattle.m3ua_trace.proofs.Numbers.{digits-decimal, is_point_octet, point_octets}

-- neither a line feed nor a carriage return
abbrev pub is_plain : ℕ → Bool
is_plain octet = not (octet == 10) && not (octet == 13)

abbrev pub IsPlain : List ℕ → Type 0
IsPlain text = list_all is_plain text ≡ true

-- octets that pass a test which neither passes
plain_by : (test : ℕ → Bool) (text : List ℕ) → test 10 ≡ false → test 13 ≡ false → list_all test text ≡ true → IsPlain text
plain_by test [] feed return each = refl
plain_by test (octet ∷ octets) feed return each =
    let p = and_parts (test octet) (list_all test octets) each in
    rw (other test 10 octet feed p.0, other test 13 octet return p.0, plain_by test octets feed return p.1) refl

pub plain-append : (xs ys : List ℕ) → IsPlain xs → IsPlain ys → IsPlain (xs ++ ys)
plain-append xs ys p q = list_all-append is_plain xs ys ∙ rw (p, q) refl

pub plain-decimal : (n : ℕ) → n < 2 ^ 64 → IsPlain (decimal n)
plain-decimal n lt = plain_by is_ascii_digit (decimal n) refl refl (digits-decimal n lt)

pub plain-name : (name : List ℕ) → IsName name → IsPlain name
plain-name name h = plain_by is_name_octet name refl refl (list_all-from_AllPass is_name_octet name h.each)

pub plain-point : (pc : ℕ) → pc < 16384 → IsPlain (point_code_text pc)
plain-point pc lt = plain_by is_point_octet (point_code_text pc) refl refl (point_octets pc lt)

pub plain-octets : (octets : List ℕ) → IsBytes octets → IsPlain (encode_upper octets)
plain-octets octets h =
    plain_by is_hex_digit (encode_upper octets) refl refl
    (list_all-from_AllPass is_hex_digit (encode_upper octets)
    (decode_of-ok (encode_upper octets) octets (decode_of-encode_upper octets h)).1)

-- ---- what the lines of a text ask for

fails : (b c : Bool) → (not b && not c) ≡ true → (b ≡ false) × (c ≡ false)
fails true c e = cc
fails false true e = cc
fails false false e = (refl, refl)

plain_at : (octet : ℕ) → is_plain octet ≡ true → (eqb octet 10 ≡ false) × (eqb octet 13 ≡ false)
plain_at octet e = fails (eqb octet 10) (eqb octet 13) e

pub one_line : (text : List ℕ) → IsPlain text → All (λ octet. is_line_feed octet ≡ false) text
one_line [] h = All-nil (λ octet. is_line_feed octet ≡ false)
one_line (octet ∷ octets) h =
    let p = and_parts (is_plain octet) (list_all is_plain octets) h in
    All-cons (λ octet. is_line_feed octet ≡ false) octet octets (plain_at octet p.0).0 (one_line octets p.1)

-- no octet is a carriage return, nor is what a read after the end gives
no_return : (text : List ℕ) (i : ℕ) → IsPlain text → eqb (get_or text i 0) 13 ≡ false
no_return [] i h = refl
no_return (octet ∷ octets) zero h = (plain_at octet (and_parts (is_plain octet) (list_all is_plain octets) h).0).1
no_return (octet ∷ octets) (suc i) h = no_return octets i (and_parts (is_plain octet) (list_all is_plain octets) h).1

pub keeps_all : (text : List ℕ) → IsPlain text → without_return text ≡ text
keeps_all text h = rw (no_return text (length text - 1) h) refl
