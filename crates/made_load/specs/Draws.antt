-- Numbers that follow one from another.
use Rattle.std.specs.Prelude.{ℕ, zero, suc, ◌+◌, ◌*◌, ◌/◌, ◌%◌, ◌^◌, List, [], ◌∷◌}

-- a linear congruential generator: the number after a number
abbrev pub after : ℕ → ℕ
after x = (1664525 * x + 1013904223) % 2 ^ 32

-- the value that is drawn from a number: the upper sixteen bits of the number after it
abbrev pub drawn : ℕ → ℕ
drawn x = after x / 65536

-- a digit from a drawn value
abbrev pub digit : ℕ → ℕ
digit x = drawn x % 10

-- two digits in an octet, the first in its low half
abbrev pub pair : ℕ → ℕ
pair x = digit x + 16 * digit (after x)

-- this number of digits
abbrev pub digits : ℕ → ℕ → List ℕ
digits zero x = []
digits (suc count) x = digit x ∷ digits count (after x)

-- the number after as many digits
abbrev pub after_digits : ℕ → ℕ → ℕ
after_digits zero x = x
after_digits (suc count) x = after_digits count (after x)
