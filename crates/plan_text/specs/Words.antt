-- The values that the texts and integers of a plan text spell.
use Rattle.std.specs.Prelude.{ℕ, ℤ, pos, negsuc, ◌&&◌, nat_le, if◌then◌else◌, List, length, Option, Some, None, option_map, option_and_then}
use Rattle.std.specs.Result.{result_ok}
use Rattle.sccp_base.specs.DigitText.{digits_of}
use Rattle.sccp_base.specs.Text.{cut_at, byte_of, point_code_of}

-- a number from least to most
unfoldable pub within : ℕ → ℕ → ℤ → Option ℕ
within least most (pos n) = if nat_le least n && nat_le n most then Some n else None
within least most (negsuc n) = None

-- up to this number of digits
unfoldable pub digits_up_to : ℕ → List ℕ → Option (List ℕ)
digits_up_to most text = option_and_then (λ digits. if nat_le (length digits) most then Some digits else None) (result_ok (digits_of text))

-- a point code, a slash (47) and a subsystem number
unfoldable pub place_of : List ℕ → Option (ℕ × ℕ)
place_of text =
    option_and_then (λ parts. option_and_then (λ pc. option_map (λ ssn. (pc, ssn)) (byte_of parts.1)) (point_code_of parts.0))
    (cut_at 47 text)
