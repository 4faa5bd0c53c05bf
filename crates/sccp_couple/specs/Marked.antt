-- Marks of the numbers that are in use.
use Rattle.std.specs.Prelude.{ℕ, Bool, false, not, List, get_or}

-- a number whose mark is not set
abbrev pub is_unmarked : List Bool → ℕ → Bool
is_unmarked marks n = not (get_or marks n false)
