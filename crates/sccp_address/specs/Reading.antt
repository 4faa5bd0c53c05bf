-- Reading an address from left to right, with the first fault that is met (ITU-T Q.713 section 3.4).
-- This project chose to ignore spare bits and the filler, and to keep some titles as their octets.
use Rattle.std.specs.Prelude.{ℕ, ◌+◌, ◌*◌, Bool, true, false, ◌&&◌, ◌==◌, nat_le, nat_lt, if◌then◌else◌, List, [], ◌∷◌, length, take, drop}
use Rattle.std.specs.Prelude.{Option, Some, None, Result, Ok, Err}
use Rattle.sccp_base.specs.Answers.{◌>>=◌}
use Rattle.sccp_base.specs.Bcd.{unpacked}
use Rattle.sccp_base.specs.Bits.{bit, bits}
use Rattle.sccp_base.specs.Selector.{Numbers, numbers}
use Rattle.sccp_address.specs.declared.address.Address.{Address}
use Rattle.sccp_address.specs.declared.address.Title.{Title}
use Rattle.sccp_address.specs.declared.address.Title.TheVariants.{Absent, Global, Raw}
use Rattle.sccp_address.specs.declared.fault.AddressFault.{AddressFault}
use Rattle.sccp_address.specs.declared.fault.AddressFault.TheVariants.{Empty, Short, Extra, OddWithoutDigits}

-- a field of `len` octets, and what follows it; Short if fewer are left
abbrev pub field_at : ℕ → List ℕ → Result (List ℕ × List ℕ) AddressFault
field_at len octets = if nat_lt (length octets) len then Err Short else Ok (take len octets, drop len octets)

-- the signalling point code (3.4.2.1): the low octet first, and two spare bits on top
abbrev pub point_code : List ℕ → Option ℕ
point_code [] = None
point_code (low ∷ []) = None
point_code (low ∷ high ∷ rest) = Some (low + 256 * bits high 1 6)

-- the subsystem number in its field (3.4.2.2)
abbrev pub first_of : List ℕ → Option ℕ
first_of [] = None
first_of (ssn ∷ rest) = Some ssn

-- A title with digits. If it has more than 32, it is kept as its octets.
abbrev pub global_or_raw : Numbers → Bool → List ℕ → List ℕ → Result Title AddressFault
global_or_raw s odd digits octets =
    if odd && (length digits == 0) then Err OddWithoutDigits
    else if nat_le (length (unpacked digits odd)) 32 then Ok (Global s (unpacked digits odd))
    else Ok (Raw s.kind octets)

-- The encoding scheme is 1 for an odd number of digits and 2 for an even one. A title of another scheme is kept as its octets.
abbrev pub by_scheme : ℕ → Numbers → List ℕ → List ℕ → Result Title AddressFault
by_scheme scheme s digits octets =
    if scheme == 1 then global_or_raw s true digits octets
    else if scheme == 2 then global_or_raw s false digits octets
    else Ok (Raw s.kind octets)

-- indicator 0000: no global title, so nothing may be left
abbrev pub none_at : List ℕ → Result Title AddressFault
none_at [] = Ok Absent
none_at (o ∷ octets) = Err Extra

-- indicator 0001: the nature of address, with the odd/even bit on top
abbrev pub nature_at : List ℕ → Result Title AddressFault
nature_at [] = Err Short
nature_at (n ∷ digits) = global_or_raw (numbers 1 0 0 (bits n 1 7)) (bit n 8) digits (n ∷ digits)

-- indicator 0010: the translation type; all halves after it are digits, which is this project's choice
abbrev pub translation_at : List ℕ → Result Title AddressFault
translation_at [] = Err Short
translation_at (t ∷ digits) = global_or_raw (numbers 2 t 0 0) false digits (t ∷ digits)

-- indicator 0011: the translation type, and an octet of numbering plan and encoding scheme
abbrev pub plan_at : List ℕ → Result Title AddressFault
plan_at [] = Err Short
plan_at (t ∷ []) = Err Short
plan_at (t ∷ p ∷ digits) = by_scheme (bits p 1 4) (numbers 3 t (bits p 5 8) 0) digits (t ∷ p ∷ digits)

-- indicator 0100: the same, and then the nature of address
abbrev pub full_at : List ℕ → Result Title AddressFault
full_at [] = Err Short
full_at (t ∷ []) = Err Short
full_at (t ∷ p ∷ []) = Err Short
full_at (t ∷ p ∷ n ∷ digits) = by_scheme (bits p 1 4) (numbers 4 t (bits p 5 8) (bits n 1 7)) digits (t ∷ p ∷ n ∷ digits)

-- the global title of a kind, which is the indicator's number for it (3.4.2.3); of another kind, the title is kept as its octets
abbrev pub title_at : ℕ → List ℕ → Result Title AddressFault
title_at kind octets =
    if kind == 0 then none_at octets
    else if kind == 1 then nature_at octets
    else if kind == 2 then translation_at octets
    else if kind == 3 then plan_at octets
    else if kind == 4 then full_at octets
    else Ok (Raw kind octets)

-- the address: its indicator (3.4.1), and the fields that the indicator announces, in their order
unfoldable pub address_of : List ℕ → Result Address AddressFault
address_of [] = Err Empty
address_of (indicator ∷ octets) = do
  pc ← field_at (if bit indicator 1 then 2 else 0) octets
  ssn ← field_at (if bit indicator 2 then 1 else 0) pc.1
  title ← title_at (bits indicator 3 6) ssn.1
  Ok (record { national = bit indicator 8; by_ssn = bit indicator 7; pc = point_code pc.0; ssn = first_of ssn.0; title = title })
