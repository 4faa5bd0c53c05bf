-- Numbers in octets, in either order.
use Rattle.std.specs.Prelude.{ℕ, ◌+◌, List, [], ◌∷◌, slice_index}
use Rattle.std.specs.Int.{w16, w32, from_be_bytes, from_le_bytes}
use Rattle.capture_file.specs.declared.order.Order.{Order}
use Rattle.capture_file.specs.declared.order.Order.TheVariants.{Big, Little}

-- the number of the two octets at a place
abbrev pub number_2 : Order → List ℕ → ℕ → ℕ
number_2 Big b place = from_be_bytes w16 (slice_index b place ∷ slice_index b (place + 1) ∷ [])
number_2 Little b place = from_le_bytes w16 (slice_index b place ∷ slice_index b (place + 1) ∷ [])

-- the number of the four octets at a place
abbrev pub number_4 : Order → List ℕ → ℕ → ℕ
number_4 Big b place =
    from_be_bytes w32 (slice_index b place ∷ slice_index b (place + 1) ∷ slice_index b (place + 2) ∷ slice_index b (place + 3) ∷ [])
number_4 Little b place =
    from_le_bytes w32 (slice_index b place ∷ slice_index b (place + 1) ∷ slice_index b (place + 2) ∷ slice_index b (place + 3) ∷ [])
