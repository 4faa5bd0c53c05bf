-- The text of digits, one at a time.
use Rattle.std.proofs.Common.{◌≡◌, ℕ, ◌+◌, ◌<◌, List, [], ◌∷◌, ◌++◌, length, take, map, get_or, slice_index, append_assoc}
use Rattle.std.proofs.lemmas.List.{map_more}
use Rattle.hex.specs.Hex.{upper_digits}

-- one digit more
pub digits_more : (text : List ℕ) (ds : List ℕ) (i : ℕ) → i < length ds →
    (text ++ map (slice_index upper_digits) (take i ds)) ++ (slice_index upper_digits (get_or ds i 0) ∷ []) ≡ text
    ++ map (slice_index upper_digits) (take (i + 1) ds)
digits_more text ds i h = rw (map_more (slice_index upper_digits) ds i 0 h) (append_assoc text _ _)
