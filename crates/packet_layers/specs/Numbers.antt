-- Numbers and bits in octets.
use Rattle.std.specs.Prelude.{ℕ, ◌+◌, ◌*◌, ◌/◌, ◌%◌, ◌^◌, ◌==◌, Bool, List, [], ◌∷◌, slice_index}
use Rattle.std.specs.Int.{w16, w32, from_be_bytes, from_le_bytes}

-- the number of the two octets at a place, the most significant octet first
abbrev pub number_2 : List ℕ → ℕ → ℕ
number_2 b place = from_be_bytes w16 (slice_index b place ∷ slice_index b (place + 1) ∷ [])

-- the number of the four octets at a place, the most significant octet first
abbrev pub number_4 : List ℕ → ℕ → ℕ
number_4 b place =
    from_be_bytes w32 (slice_index b place ∷ slice_index b (place + 1) ∷ slice_index b (place + 2)
    ∷ slice_index b (place + 3) ∷ [])

-- the number of the four octets at a place, the least significant octet first
abbrev pub little_4 : List ℕ → ℕ → ℕ
little_4 b place =
    from_le_bytes w32 (slice_index b place ∷ slice_index b (place + 1) ∷ slice_index b (place + 2)
    ∷ slice_index b (place + 3) ∷ [])

-- the least multiple of four from a number on
abbrev pub up_to_four : ℕ → ℕ
up_to_four n = (n + 3) / 4 * 4

-- whether the bit at a place, from 0 for the lowest, is 1
abbrev pub bit : ℕ → ℕ → Bool
bit octet place = octet / 2 ^ place % 2 == 1
