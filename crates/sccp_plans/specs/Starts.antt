-- The start of a route, as words.
use Rattle.std.specs.Prelude.{ℕ, List, [], Option, Some, if◌then◌else◌, codes, option_and_then}
use Rattle.std.specs.Result.{result_ok}
use Rattle.std.specs.Str.{bytes_eq}
use Rattle.sccp_base.specs.DigitText.{digits_of}
use Rattle.sccp_base.specs.Names.{name_of}
use Rattle.sccp_base.specs.Text.{below, decimal_of, selector_of}
use Rattle.sccp_plans.specs.declared.start.Start.{Start}

-- a subsystem number up to 255 of one to ten decimal digits
abbrev pub ssn_of : List ℕ → Option ℕ
ssn_of word = below 256 (decimal_of 10 word)

-- a hyphen means the empty word
abbrev pub digits_word : List ℕ → List ℕ
digits_word word = if bytes_eq word (codes "-") then [] else word

-- up to 32 digits
abbrev pub title_digits : List ℕ → Option (List ℕ)
title_digits word = result_ok (digits_of (digits_word word))

-- the title of a selector, a subsystem number and digits, at the node of a name
unfoldable pub start_of : List ℕ → List ℕ → List ℕ → List ℕ → Option Start
start_of node selector ssn digits =
    option_and_then (λ name. option_and_then (λ s. option_and_then (λ n. option_and_then (λ d.
    Some (record { node = name; selector = s; ssn = n; digits = d }))
    (title_digits digits)) (ssn_of ssn)) (selector_of selector)) (name_of node)
