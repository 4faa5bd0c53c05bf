-- The first answer of a test along a list.
use Rattle.std.specs.Prelude.{ℕ, ◌+◌, List, [], ◌∷◌, Option, None}
use Rattle.std.specs.Option.{option_or}

-- the test gets each item and its place, from the given place on
abbrev pub first_of : {A B : Type 0} → (ℕ → A → Option B) → ℕ → List A → Option B
first_of test place [] = None
first_of test place (x ∷ xs) = option_or (test place x) (first_of test (place + 1) xs)
