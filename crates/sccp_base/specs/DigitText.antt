-- Digits of a global title, read from a text.
use Rattle.std.specs.Prelude.{ℕ, ◌+◌, ◌-◌, ◌&&◌, nat_lt, nat_le, if◌then◌else◌, List, length, slice_index, Option, Some, None, Result, Err}
use Rattle.std.specs.Option.{ok_or}
use Rattle.std.specs.List.{range_with_len}
use Rattle.sccp_base.specs.Answers.{all_ok}
use Rattle.sccp_base.specs.declared.digits_fault.DigitsFault.{DigitsFault}
use Rattle.sccp_base.specs.declared.digits_fault.DigitsFault.TheVariants.{TooMany, NotDigit}

-- the value of `0` to `9` (48 to 57), `A` to `F` (65 to 70) and `a` to `f` (97 to 102)
abbrev pub hex_digit : ℕ → Option ℕ
hex_digit c =
    if nat_le 48 c && nat_le c 57 then Some (c - 48)
    else if nat_le 65 c && nat_le c 70 then Some (c - 65 + 10)
    else if nat_le 97 c && nat_le c 102 then Some (c - 97 + 10)
    else None

-- the digit at a place of the text, or the fault with that place
abbrev pub digit_at : List ℕ → ℕ → Result ℕ DigitsFault
digit_at text place = ok_or (hex_digit (slice_index text place)) (NotDigit place)

-- up to 32 digits, or the first fault
abbrev pub digits_of : List ℕ → Result (List ℕ) DigitsFault
digits_of text = if nat_lt 32 (length text) then Err TooMany else all_ok (digit_at text) (range_with_len 0 (length text))
