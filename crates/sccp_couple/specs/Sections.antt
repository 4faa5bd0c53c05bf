-- The connection sections of a node (ITU-T Q.714 section 3), as a list in the order in which they were made.
use Rattle.std.specs.Prelude.{ℕ, ◌==◌, ◌+◌, Bool, true, false, not, ◌&&◌, if◌then◌else◌, List, [], ◌∷◌, ◌++◌, length, map, filter, find}
use Rattle.std.specs.Prelude.{Option, Some, None, is_some, option_and_then, slice_index}
use Rattle.std.specs.List.{list_any, range_with_len}
use Rattle.sccp_couple.specs.declared.section.Section.{Section}

-- there is a value, and it is this one
abbrev pub is_that : Option ℕ → ℕ → Bool
is_that None n = false
is_that (Some m) n = m == n

-- the section with an own reference
abbrev pub section_at : List Section → ℕ → Option Section
section_at sections own = find (λ s. s.own == own) sections

-- a section, if its point is this one
abbrev pub if_from : ℕ → Section → Option Section
if_from origin s = if s.point == origin then Some s else None

-- the section to which a message from this point with this destination local reference belongs
abbrev pub known : List Section → ℕ → ℕ → Option Section
known sections origin dlr = option_and_then (if_from origin) (section_at sections dlr)

-- the section that this one is coupled with
abbrev pub other_of : List Section → Section → Option Section
other_of sections s = option_and_then (section_at sections) s.other

-- a section that is there and has a remote reference
abbrev pub has_remote : Option Section → Bool
has_remote None = false
has_remote (Some s) = is_some s.remote

-- it and its other section both have a remote reference
abbrev pub is_established : List Section → Section → Bool
is_established sections s = is_some s.remote && has_remote (other_of sections s)

-- a near section with this point and remote
abbrev pub is_near_of : ℕ → ℕ → Section → Bool
is_near_of point remote s = s.near && ((s.point == point) && is_that s.remote remote)

-- a section, changed if it has this own reference
abbrev pub change : (Section → Section) → ℕ → Section → Section
change f own s = if s.own == own then f s else s

-- the sections with one of them changed
abbrev pub changed : (Section → Section) → ℕ → List Section → List Section
changed f own sections = map (change f own) sections

-- its remote reference becomes known
abbrev pub confirmed : ℕ → Section → Section
confirmed remote s = record s { remote = Some remote }

-- it is being released
abbrev pub released : Section → Section
released s = record s { other = None }

-- a section with another own reference
abbrev pub is_other_than : ℕ → Section → Bool
is_other_than own s = not (s.own == own)

-- the sections without the one of this own reference
abbrev pub without : ℕ → List Section → List Section
without own sections = filter (is_other_than own) sections

-- the sections without the one of this own reference, if there is a reference
abbrev pub without_other : Option ℕ → List Section → List Section
without_other None sections = sections
without_other (Some own) sections = without own sections

-- the sections without a section and its other one
abbrev pub without_both : Section → List Section → List Section
without_both s sections = without_other s.other (without s.own sections)

-- no section has this number as its own reference
abbrev pub is_unused : List Section → ℕ → Bool
is_unused sections n = not (list_any (λ s. s.own == n) sections)

-- the numbers from 1 that no section has, in order, far enough to include two of them
abbrev pub unused : List Section → List ℕ
unused sections = filter (is_unused sections) (range_with_len 1 (length sections + 2))

-- two more sections: the near one has the point and reference of the request, the far one the point that it goes on to
abbrev pub with_pair : ℕ → ℕ → ℕ → ℕ → ℕ → List Section → List Section
with_pair near far point remote to sections =
    sections
    ++ record { own = near; point = point; remote = Some remote; other = Some far; near = true }
    ∷ record { own = far; point = to; remote = None; other = Some near; near = false }
    ∷ []

-- the own references of two new sections: the two smallest that are unused
abbrev pub first_new : List Section → ℕ
first_new sections = slice_index (unused sections) 0

-- the second of the two
abbrev pub second_new : List Section → ℕ
second_new sections = slice_index (unused sections) 1
