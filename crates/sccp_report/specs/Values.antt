-- The printed text of values. Numbers are decimal, without leading zeros; octets and digits are hexadecimal, in upper case.
use Rattle.std.specs.Prelude.{ℕ, ◌/◌, ◌%◌, ◌==◌, if◌then◌else◌, List, [], ◌∷◌, ◌++◌, map, slice_index, codes, decimal, Option, Some, None}
use Rattle.hex.specs.Hex.{encode_upper, upper_digits}
use Rattle.sccp_base.specs.Selector.{Numbers}

-- what is absent is a dash
abbrev pub or_dash : {A : Type 0} → (A → List ℕ) → Option A → List ℕ
or_dash text None = codes "-"
or_dash text (Some value) = text value

-- a number after a name
unfoldable pub numbered : List ℕ → ℕ → List ℕ
numbered name number = name ++ decimal number

-- two digits for each octet; a dash if there is none
unfoldable pub octets_text : List ℕ → List ℕ
octets_text [] = codes "-"
octets_text (octet ∷ octets) = encode_upper (octet ∷ octets)

-- a digit of 0 to 15 each; a dash if there is none
unfoldable pub digits_text : List ℕ → List ℕ
digits_text [] = codes "-"
digits_text (digit ∷ digits) = map (slice_index upper_digits) (digit ∷ digits)

-- Zone, area and signalling point: a zone has 256 areas, and an area eight points. Of a point code they are its top
-- three bits, the eight in the middle and the low three. Numbers that are no point codes, as 16384, have texts too.
unfoldable pub point_code_text : ℕ → List ℕ
point_code_text pc = decimal (pc / 2048) ++ codes "-" ++ decimal (pc / 8 % 256) ++ codes "-" ++ decimal (pc % 8)

-- the kind, and then the numbers that this kind has: translation type, numbering plan and nature of address
unfoldable pub selector_text : Numbers → List ℕ
selector_text s =
    if s.kind == 1 then codes "1:" ++ decimal s.nature
    else if s.kind == 2 then codes "2:" ++ decimal s.translation
    else if s.kind == 3 then codes "3:" ++ decimal s.translation ++ codes ":" ++ decimal s.plan
    else codes "4:" ++ decimal s.translation ++ codes ":" ++ decimal s.plan ++ codes ":" ++ decimal s.nature
