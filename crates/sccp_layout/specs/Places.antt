-- The places of the parts of a message (ITU-T Q.713 sections 1, 2.2 and 2.3). Places count octets; the type octet is at 0.
use Rattle.std.specs.Prelude.{ℕ, zero, suc, ◌+◌, ◌*◌, Bool, false, not, ◌&&◌, ◌==◌, nat_le, nat_lt, if◌then◌else◌, List, [], ◌∷◌, length}
use Rattle.std.specs.Prelude.{slice_index, slice_range, Option, Some, None, option_map, option_and_then}
use Rattle.sccp_layout.specs.declared.shape.Layout.{Layout}
use Rattle.sccp_layout.specs.Parameter.{Parameter, parameter}

-- a number of one octet, or of two with the low one first (profile)
abbrev pub number_at : Bool → List ℕ → ℕ → ℕ
number_at two octets place = slice_index octets place + (if two then 256 * slice_index octets (place + 1) else 0)

-- how many octets a pointer or a length has
abbrev pub width : Bool → ℕ
width two = if two then 2 else 1

-- the place of pointer i, counted from 0; the optional one follows those of the variable parts
abbrev pub pointer_place : Layout → ℕ → ℕ
pointer_place l i = 1 + l.fixed + width l.long * i

-- the first place after all pointers
abbrev pub after_pointers : Layout → ℕ
after_pointers l = pointer_place l (l.variable + (if l.optional then 1 else 0))

-- the value of pointer i
abbrev pub pointer : Layout → List ℕ → ℕ → ℕ
pointer l b i = number_at l.long b (pointer_place l i)

-- The place that pointer i names. A pointer counts from itself, and one of two octets from its second octet (profile).
abbrev pub place : Layout → List ℕ → ℕ → ℕ
place l b i = pointer_place l i + pointer l b i + (if l.long then 1 else 0)

-- A pointer names a place after all pointers and inside the message.
abbrev pub names_place : Layout → List ℕ → ℕ → Bool
names_place l b i = not (pointer l b i == 0) && nat_le (after_pointers l) (place l b i) && nat_lt (place l b i) (length b)

-- the contents after a length at a place, if they end inside the message
abbrev pub contents : Bool → List ℕ → ℕ → Option (List ℕ)
contents two b p =
    let start = p + width two in
    let end = start + number_at two b p in
    if nat_le end (length b) then Some (slice_range b start end) else None

-- variable part i; only long data has a length of two octets
abbrev pub part : Layout → List ℕ → ℕ → Option (List ℕ)
part l b i = contents (l.long && (i == 2)) b (place l b i)

-- The parameters from a place up to the end octet 00. None if an octet of them is missing, or if there are `most` of them
-- or more.
abbrev pub listed_below : ℕ → List ℕ → ℕ → Option (List Parameter)
listed_below zero b p = None
listed_below (suc most) b p =
    if nat_le (length b) p then None
    else if slice_index b p == 0 then Some []
    else option_and_then (λ octets. option_map (λ ps. parameter (slice_index b p) octets ∷ ps)
    (listed_below most b (p + 2 + length octets))) (contents false b (p + 1))

-- The parameters from a place on. A message lists fewer parameters than it has octets.
abbrev pub listed : List ℕ → ℕ → Option (List Parameter)
listed b p = listed_below (length b) b p
