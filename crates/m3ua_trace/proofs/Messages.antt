-- A message line that is printed is read again.
use Rattle.std.proofs.Common.{◌≡◌, ℕ, ◌+◌, ◌*◌, ◌<◌, ◌≤◌, List, [], ◌∷◌, ◌++◌, length, Some, Ok, refl, sym}
use Rattle.std.proofs.Common.{ap, length-append, arith}
use Rattle.std.specs.Prelude.{codes}
use Rattle.std.specs.Result.{result_ok}
use Rattle.std.proofs.lemmas.List.Sums.{list_all-from_AllPass}
use Rattle.hex.specs.Hex.{encode_upper, upper_digits, decode_of, IsBytes}
use Rattle.hex.proofs.HexLemmas.{decode_of-encode_upper, length-encode_with}
use Rattle.sccp_base.proofs.NameTexts.{named}
use Rattle.sccp_base.specs.Names.{IsName, is_name_octet, name_of}
use Rattle.sccp_base.specs.Text.{cut_at}
use Rattle.sccp_report.specs.Values.{point_code_text}
use Rattle.trace_text.specs.Forms.{message, line_of_fields, line_of}
use Rattle.trace_text.specs.Hex.{hex_word}
use Rattle.trace_text.specs.declared.line.Line.TheVariants.{Msg}
use Rattle.m3ua_trace.specs.Imported.{message_line}
use Rattle.m3ua_trace.proofs.Fields.{cut_front}
use Rattle.m3ua_trace.proofs.Numbers.{point-again, is_point_octet, point_octets, length-point}
use Rattle.m3ua_trace.proofs.Plain.{IsPlain, plain-append, plain-name, plain-point, plain-octets}

hex_some : (text octets : List ℕ) → 0 < length text → decode_of text ≡ Ok octets → hex_word text ≡ Some octets
hex_some [] octets some e = absurd (omega arith)
hex_some (digit ∷ digits) octets some e = ap result_ok e

hex-again : (octets : List ℕ) → IsBytes octets → 0 < length octets → hex_word (encode_upper octets) ≡ Some octets
hex-again octets bytes some = hex_some (encode_upper octets) octets (omega (arith, length-encode_with upper_digits octets))
    (decode_of-encode_upper octets bytes)

message-again : (name octets : List ℕ) (origin : ℕ) → IsName name → origin < 16384 → IsBytes octets → 0 < length octets
    → message (name ++ 32 ∷ (point_code_text origin ++ 32 ∷ encode_upper octets)) ≡ Some (Msg name origin octets)
unfolding message
message-again name octets origin is_name point bytes some =
    let back : List ℕ = point_code_text origin ++ 32 ∷ encode_upper octets in
    let first : cut_at 32 (name ++ 32 ∷ back) ≡ Some (name, back) =
    cut_front is_name_octet 32 name back refl (list_all-from_AllPass is_name_octet name is_name.each) in
    let second : cut_at 32 back ≡ Some (point_code_text origin, encode_upper octets) =
    cut_front is_point_octet 32 (point_code_text origin) (encode_upper octets) refl (point_octets origin point) in
    let named_is : name_of name ≡ Some name = sym (named name (Some name) (is_name, refl)) in
    rw (first, second, point-again origin point, named_is, hex-again octets bytes some) refl

pub line-again : (name octets : List ℕ) (origin : ℕ) → IsName name → origin < 16384 → IsBytes octets → 0 < length octets
    → line_of (message_line name origin octets) ≡ Some (Msg name origin octets)
unfolding line_of line_of_fields message_line
line-again name octets origin is_name point bytes some = message-again name octets origin is_name point bytes some

pub line-plain : (name octets : List ℕ) (origin : ℕ) → IsName name → origin < 16384 → IsBytes octets
    → IsPlain (message_line name origin octets)
unfolding message_line
line-plain name octets origin is_name point bytes =
    plain-append (codes "msg ") (name ++ 32 ∷ (point_code_text origin ++ 32 ∷ encode_upper octets)) refl
    (plain-append name (32 ∷ (point_code_text origin ++ 32 ∷ encode_upper octets)) (plain-name name is_name)
    (plain-append (32 ∷ []) (point_code_text origin ++ 32 ∷ encode_upper octets) refl
    (plain-append (point_code_text origin) (32 ∷ encode_upper octets) (plain-point origin point)
    (plain-append (32 ∷ []) (encode_upper octets) refl (plain-octets octets bytes)))))

-- two octets of the line for each octet of the message, and at most 29 before them
pub length-line : (name octets : List ℕ) (origin : ℕ) → IsName name → origin < 16384
    → length (message_line name origin octets) ≤ 37 + 2 * length octets
unfolding message_line
length-line name octets origin is_name point =
    omega (
      arith,
      is_name.most,
      length-point origin point,
      length-encode_with upper_digits octets,
      length-append name (32 ∷ (point_code_text origin ++ 32 ∷ encode_upper octets)),
      length-append (point_code_text origin) (32 ∷ encode_upper octets),
    )
