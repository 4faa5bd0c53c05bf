-- Texts of the command line and of plans, as octets in ASCII.
use Rattle.std.specs.Prelude.{ℕ, ◌+◌, ◌*◌, ◌-◌, ◌&&◌, ◌==◌, not, nat_lt, nat_le, if◌then◌else◌, List, [], ◌∷◌, length, fold, Option, Some}
use Rattle.std.specs.Prelude.{None, option_map, option_and_then}
use Rattle.std.specs.List.{list_all}
use Rattle.std.specs.Char.{is_ascii_digit}
use Rattle.sccp_base.specs.Selector.{Numbers, numbers}

-- the text before the first separator, and the text after it
abbrev pub cut_at : ℕ → List ℕ → Option (List ℕ × List ℕ)
cut_at separator [] = None
cut_at separator (c ∷ cs) = if c == separator then Some ([], cs) else option_map (λ parts. (c ∷ parts.0, parts.1)) (cut_at separator cs)

-- the number that decimal digits spell
abbrev pub spelled : List ℕ → ℕ
spelled digits = fold (λ n c. 10 * n + (c - 48)) 0 digits

-- the number that one to `most` decimal digits spell
abbrev pub decimal_of : ℕ → List ℕ → Option ℕ
decimal_of most text = if not (length text == 0) && nat_le (length text) most && list_all is_ascii_digit text then Some (spelled text)
    else None

-- a number below a limit
abbrev pub below : ℕ → Option ℕ → Option ℕ
below limit number = option_and_then (λ n. if nat_lt n limit then Some n else None) number

-- a number up to 255 of one to three decimal digits
abbrev pub byte_of : List ℕ → Option ℕ
byte_of text = below 256 (decimal_of 3 text)

-- zone, area and point: the top 3, the middle 8 and the low 3 bits of a point code
abbrev pub point_code_by : List ℕ → List ℕ → List ℕ → Option ℕ
point_code_by zone area point =
    option_and_then (λ z. option_and_then (λ a. option_and_then (λ p. Some (2048 * z + 8 * a + p))
    (below 8 (decimal_of 3 point))) (below 256 (decimal_of 3 area))) (below 8 (decimal_of 3 zone))

-- the point code of a zone and what follows it, cut at its hyphen
abbrev pub point_code_from : List ℕ → Option (List ℕ × List ℕ) → Option ℕ
point_code_from zone None = None
point_code_from zone (Some parts) = point_code_by zone parts.0 parts.1

-- one value, or zone, area and point with a hyphen (45) between them
abbrev pub point_code_in : List ℕ → Option (List ℕ × List ℕ) → Option ℕ
point_code_in text None = below 16384 (decimal_of 5 text)
point_code_in text (Some parts) = point_code_from parts.0 (cut_at 45 parts.1)

-- the point code that a text spells
abbrev pub point_code_of : List ℕ → Option ℕ
point_code_of text = point_code_in text (cut_at 45 text)

-- the numbers, if they are in the ranges of a selector
abbrev pub selected : Numbers → Option Numbers
selected s = if nat_lt s.plan 16 && nat_lt s.nature 128 then Some s else None

-- the nature of address of kind 1
abbrev pub nature_of : List ℕ → Option Numbers
nature_of text = option_and_then (λ n. selected (numbers 1 0 0 n)) (byte_of text)

-- the translation type of kind 2
abbrev pub translation_of : List ℕ → Option Numbers
translation_of text = option_and_then (λ t. selected (numbers 2 t 0 0)) (byte_of text)

-- translation type and numbering plan of kind 3, with a colon (58) between them
abbrev pub plan_of : List ℕ → Option Numbers
plan_of text =
    option_and_then (λ parts. option_and_then (λ t. option_and_then (λ p. selected (numbers 3 t p 0)) (byte_of parts.1)) (byte_of parts.0))
    (cut_at 58 text)

-- translation type, numbering plan and nature of address of kind 4, with colons (58) between them
abbrev pub full_of : List ℕ → Option Numbers
full_of text =
    option_and_then (λ first. option_and_then (λ second.
    option_and_then (λ t. option_and_then (λ p. option_and_then (λ n. selected (numbers 4 t p n)) (byte_of second.1)) (byte_of second.0))
    (byte_of first.0))
    (cut_at 58 first.1)) (cut_at 58 text)

-- the selector of a kind, one digit from 1 to 4 (49 to 52), and of its numbers
abbrev pub selector_by : List ℕ → List ℕ → Option Numbers
selector_by [] rest = None
selector_by (kind ∷ []) rest =
    if kind == 49 then nature_of rest
    else if kind == 50 then translation_of rest
    else if kind == 51 then plan_of rest
    else if kind == 52 then full_of rest
    else None
selector_by (kind ∷ more ∷ others) rest = None

-- the selector that a text spells; a colon follows its kind
abbrev pub selector_of : List ℕ → Option Numbers
selector_of text = option_and_then (λ parts. selector_by parts.0 parts.1) (cut_at 58 text)
