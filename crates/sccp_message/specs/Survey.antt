-- Every cut of octets: for each n, what keeps the first n octets from being a message.
use Rattle.std.specs.Prelude.{◌≡◌, ◌↔◌, ℕ, ◌+◌, ◌≤◌, List, length, take, map, slice_get, Option, Some, None}
use Rattle.std.specs.List.{range_with_len}
use Rattle.sccp_message.specs.declared.fault.DecodeFault.{DecodeFault}
use Rattle.sccp_message.specs.Reading.{first_fault}

-- the fault of the first n octets; none if they are a message
abbrev pub fault_of_cut : List ℕ → ℕ → Option DecodeFault
fault_of_cut b n = first_fault (take n b)

-- one for each number of octets from none to all of them
abbrev pub surveyed : List ℕ → List (Option DecodeFault)
surveyed b = map (fault_of_cut b) (range_with_len 0 (length b + 1))

-- the whole is a message, and no shorter beginning is
abbrev pub IsWholeAlone : List ℕ → List (Option DecodeFault) → Type 0
IsWholeAlone b faults = (n : ℕ) → n ≤ length b → (slice_get faults n ≡ Some None) ↔ (n ≡ length b)
