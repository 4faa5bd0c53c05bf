-- One value after another, each read at its place.
use Rattle.std.specs.Prelude.{ℕ, ◌+◌, List, [], ◌∷◌, Result, Ok}
use Rattle.sccp_base.specs.Answers.{◌>>=◌}

-- the values of all of them in order, or the first fault; each is read with its place, counted from the given one
abbrev pub each_ok : {A B E : Type 0} → (ℕ → A → Result B E) → ℕ → List A → Result (List B) E
each_ok read place [] = Ok []
each_ok read place (x ∷ xs) = do
  y ← read place x
  ys ← each_ok read (place + 1) xs
  Ok (y ∷ ys)
