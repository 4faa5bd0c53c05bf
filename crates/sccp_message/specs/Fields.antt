-- The fields of messages, from octets and as octets (ITU-T Q.713 section 3).
use Rattle.std.specs.Prelude.{ℕ, ◌+◌, ◌*◌, ◌/◌, ◌%◌, Bool, true, ◌==◌, ◌||◌, if◌then◌else◌, List, [], ◌∷◌, length, slice_index, Option}
use Rattle.std.specs.Prelude.{Some, None, option_map, find, is_ok}
use Rattle.sccp_address.specs.Reading.{address_of}
use Rattle.sccp_layout.specs.Parameter.{Parameter}
use Rattle.sccp_layout.specs.Table.{called, calling, credit, segmentation, hops, importance}

-- the octet at a place
abbrev pub octet : List ℕ → ℕ → ℕ
octet octets place = slice_index octets place

-- a local reference (3.2, 3.3): three octets, the low one first (profile)
abbrev pub reference_at : List ℕ → ℕ → ℕ
reference_at octets place = slice_index octets place + 256 * slice_index octets (place + 1) + 65536 * slice_index octets (place + 2)

-- the three octets of a local reference, the low one first
abbrev pub reference_octets : ℕ → List ℕ
reference_octets n = n % 256 ∷ n / 256 % 256 ∷ n / 65536 ∷ []

-- the contents of the first parameter of a name
abbrev pub param : List Parameter → ℕ → Option (List ℕ)
param params name = option_map (λ p. p.octets) (find (λ p. p.name == name) params)

-- Whether contents read as what the name says: addresses (3.4, 3.5), credit (3.10), segmentation (3.17), hop counter (3.18),
-- importance (3.19).
abbrev pub field_reads : ℕ → List ℕ → Bool
field_reads name octets =
    if (name == called) || (name == calling) then is_ok (address_of octets)
    else if (name == credit) || (name == hops) || (name == importance) then length octets == 1
    else if name == segmentation then length octets == 4
    else true

-- a parameter reads, if there is one
abbrev pub reads_if : ℕ → Option (List ℕ) → Bool
reads_if name None = true
reads_if name (Some octets) = field_reads name octets

-- the first of these names whose first parameter does not read
abbrev pub first_unread : List ℕ → List Parameter → Option ℕ
first_unread [] params = None
first_unread (name ∷ names) params = if reads_if name (param params name) then first_unread names params else Some name
