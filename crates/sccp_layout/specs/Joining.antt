-- A message from its parts (ITU-T Q.713 sections 1 and 2). They follow in pointer order without gaps, the optional part
-- last. This order is this project's choice.
use Rattle.std.specs.Prelude.{ℕ, ◌+◌, ◌-◌, ◌/◌, ◌%◌, ◌&&◌, ◌==◌, nat_le, Bool, true, false, if◌then◌else◌, List, [], ◌∷◌, ◌++◌, length}
use Rattle.std.specs.Prelude.{Option, Some, None, option_map, Result, Ok, Err}
use Rattle.std.specs.Option.{option_or}
use Rattle.std.specs.List.{flat_map, list_all}
use Rattle.sccp_layout.specs.declared.shape.Layout.{Layout}
use Rattle.sccp_layout.specs.declared.parts.Parts.{Parts}
use Rattle.sccp_layout.specs.declared.parts.JoinFault.{JoinFault}
use Rattle.sccp_layout.specs.declared.parts.JoinFault.TheVariants.{TooLong, PointerTooFar, OutOfMemory}
use Rattle.sccp_layout.specs.Parameter.{Parameter}
use Rattle.sccp_layout.specs.Places.{pointer_place, after_pointers}
use Rattle.sccp_base.specs.Answers.{◌>>=◌, Answers, unless}

-- a number in one octet, or in two with the low one first, which is this project's choice
abbrev pub number_octets : Bool → ℕ → List ℕ
number_octets two n = if two then n % 256 ∷ n / 256 ∷ [] else n ∷ []

-- length and contents (ITU-T Q.713 section 2.2); only long data has a length of two octets (3.20)
abbrev pub spelled_part : Bool → List ℕ → List ℕ
spelled_part two octets = number_octets two (length octets) ++ octets

-- the variable parts from part i on
abbrev pub spelled_parts : Layout → ℕ → List (List ℕ) → List (List ℕ)
spelled_parts l i [] = []
spelled_parts l i (part ∷ parts) = spelled_part (l.long && (i == 2)) part ∷ spelled_parts l (i + 1) parts

-- an optional parameter: name, length and contents (3)
abbrev pub spelled_parameter : Parameter → List ℕ
spelled_parameter p = p.name ∷ length p.octets ∷ p.octets

-- the parameters and the end of optional parameters, an octet 00 (3.1); if there are none, no octets
abbrev pub spelled_list : List Parameter → List ℕ
spelled_list [] = []
spelled_list (p ∷ ps) = flat_map spelled_parameter (p ∷ ps) ++ 0 ∷ []

-- the optional part, if the layout has one; without parameters it has no octets
abbrev pub optional_pieces : Layout → List Parameter → List (List ℕ)
optional_pieces l params = if l.optional then spelled_list params ∷ [] else []

-- all that pointers point to
abbrev pub pieces : Layout → Parts → List (List ℕ)
pieces l p = spelled_parts l 0 p.variable ++ optional_pieces l p.params

-- The value of pointer i, for a piece at a place. A piece of no octets is an optional part that is left out.
abbrev pub pointer_to : Layout → ℕ → ℕ → List ℕ → ℕ
pointer_to l i place [] = 0
pointer_to l i place (o ∷ octets) = place - (pointer_place l i + (if l.long then 1 else 0))

-- the values of the pointers from pointer i on, for pieces one after another from a place on
abbrev pub pointers_to : Layout → ℕ → ℕ → List (List ℕ) → List ℕ
pointers_to l i place [] = []
pointers_to l i place (piece ∷ others) = pointer_to l i place piece ∷ pointers_to l (i + 1) (place + length piece) others

-- the type, the fixed part, the pointers, and what they point to
abbrev pub joined : Layout → Parts → List ℕ
joined l p = p.code ∷ p.fixed ++ flat_map (number_octets l.long) (pointers_to l 0 (after_pointers l) (pieces l p))
    ++ flat_map (λ piece. piece) (pieces l p)

-- What cannot be written.

-- the largest number of one octet, or of two
abbrev pub most : Bool → ℕ
most two = if two then 65535 else 255

-- the first part, from part i on, that is longer than its length can say; the parameters count as the part after the
-- variable ones
abbrev pub first_long : Layout → ℕ → List (List ℕ) → List Parameter → Option ℕ
first_long l i [] params = if list_all (λ p. nat_le (length p.octets) 255) params then None else Some i
first_long l i (part ∷ parts) params = if nat_le (length part) (most (l.long && (i == 2))) then first_long l (i + 1) parts params
    else Some i

-- the first pointer, from pointer i on, whose value does not fit
abbrev pub first_far : Layout → ℕ → List ℕ → Option ℕ
first_far l i [] = None
first_far l i (n ∷ ns) = if nat_le n (most l.long) then first_far l (i + 1) ns else Some i

-- the first fault; a part that is too long is reported before a pointer that does not fit
abbrev pub join_fault : Layout → Parts → Option JoinFault
join_fault l p = option_or (option_map TooLong (first_long l 0 p.variable p.params))
    (option_map PointerTooFar (first_far l 0 (pointers_to l 0 (after_pointers l) (pieces l p))))

-- the octets, or the first fault
abbrev pub joining : Layout → Parts → Result (List ℕ) JoinFault
joining l p = unless (join_fault l p) (Ok (joined l p))

-- want of memory is the only fault whose cause is not given
abbrev pub is_memory : JoinFault → Bool
is_memory OutOfMemory = true
is_memory (TooLong i) = false
is_memory (PointerTooFar i) = false

-- the answer is the expected one, or memory ran out; view is what a clause sees of the answer's value
abbrev pub Gives : {X Y : Type 0} → (X → Y) → Result X JoinFault → Result Y JoinFault → Type 0
Gives view result expected = Answers is_memory view result expected

-- The same for the calls inside.

-- octets, and pointer i after them
abbrev pub with_number : Layout → ℕ → List ℕ → ℕ → Result (List ℕ) JoinFault
with_number l i octets n = if nat_le n (most l.long) then Ok (octets ++ number_octets l.long n) else Err (PointerTooFar i)

-- octets, and all pointers from pointer i on after them
abbrev pub with_numbers : Layout → ℕ → List ℕ → List ℕ → Result (List ℕ) JoinFault
with_numbers l i octets [] = Ok octets
with_numbers l i octets (n ∷ ns) = with_number l i octets n >>= λ more. with_numbers l (i + 1) more ns

-- no parameter is longer than its length can say
abbrev pub are_short : List Parameter → Bool
are_short params = list_all (λ p. nat_le (length p.octets) 255) params
