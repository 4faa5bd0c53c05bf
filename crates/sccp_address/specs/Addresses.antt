-- Which octets are an address (ITU-T Q.713 section 3.4), said by their parts. Spare bits and the filler may have any value.
use Rattle.std.specs.Prelude.{◌≡◌, ◌≢◌, ℕ, ◌<◌, ◌≤◌, Bool, false, IsTrue, if◌then◌else◌, ◌⊎◌, List, [], ◌∷◌, ◌++◌, length, Option, Some}
use Rattle.std.specs.Prelude.{None}
use Rattle.sccp_base.specs.Bcd.{unpacked}
use Rattle.sccp_base.specs.Bits.{bit, bits}
use Rattle.sccp_base.specs.Selector.{Numbers, numbers}
use Rattle.sccp_address.specs.declared.address.Address.{Address}
use Rattle.sccp_address.specs.declared.address.Title.{Title}
use Rattle.sccp_address.specs.declared.address.Title.TheVariants.{Absent, Global, Raw}
use Rattle.sccp_address.specs.Reading.{point_code, first_of}

-- The octets before the digits, and what they say: the selector, and whether the number of digits is odd.
-- Kind 1 has the nature of address, and kind 2 the translation type. Kind 3 has translation type, then plan and scheme.
-- Kind 4 has those and then the nature.
abbrev pub IsHeading : List ℕ → Numbers → Bool → Type 0
IsHeading [] s odd = ⊥
IsHeading (n ∷ []) s odd = ((s ≡ numbers 1 0 0 (bits n 1 7)) × (odd ≡ bit n 8)) ⊎ ((s ≡ numbers 2 n 0 0) × (odd ≡ false))
IsHeading (t ∷ p ∷ []) s odd = (s ≡ numbers 3 t (bits p 5 8) 0) × (bits p 1 4 ≡ (if odd then 1 else 2))
IsHeading (t ∷ p ∷ n ∷ []) s odd = (s ≡ numbers 4 t (bits p 5 8) (bits n 1 7)) × (bits p 1 4 ≡ (if odd then 1 else 2))
IsHeading (t ∷ p ∷ n ∷ o ∷ others) s odd = ⊥

-- a heading, and then octets of digits; an odd number of digits needs one of these at least
pub record HasDigits (octets : List ℕ) (s : Numbers) (digits : List ℕ) : Type 0 where
  pub heading : List ℕ
  pub packed : List ℕ
  pub odd : Bool
  pub parts : octets ≡ heading ++ packed
  pub says : IsHeading heading s odd
  pub some : IsTrue odd → 0 < length packed
  pub are : digits ≡ unpacked packed odd

-- an encoding scheme that is neither BCD with an odd nor with an even number of digits
abbrev pub HasOtherScheme : ℕ → List ℕ → Type 0
HasOtherScheme kind [] = ⊥
HasOtherScheme kind (t ∷ []) = ⊥
HasOtherScheme kind (t ∷ p ∷ octets) = (bits p 1 4 ≢ 1) × (bits p 1 4 ≢ 2) × ((kind ≡ 3) ⊎ ((kind ≡ 4) × (0 < length octets)))

-- what is kept as octets: a title of another kind, of another scheme, or of more than 32 digits
abbrev pub IsKept : ℕ → List ℕ → Type 0
IsKept kind octets = (5 ≤ kind) ⊎ (HasOtherScheme kind octets
    ⊎ ((s : Numbers) × (digits : List ℕ) × (s.kind ≡ kind) × HasDigits octets s digits × (32 < length digits)))

-- the octets of a global title; its kind is the indicator's number for it (3.4.2.3)
abbrev pub TitleIs : ℕ → List ℕ → Title → Type 0
TitleIs kind octets Absent = (kind ≡ 0) × (octets ≡ [])
TitleIs kind octets (Global s digits) = (s.kind ≡ kind) × HasDigits octets s digits × (length digits ≤ 32)
TitleIs kind octets (Raw k kept) = (k ≡ kind) × (kept ≡ octets) × IsKept kind octets

-- the indicator, and then the point code, the subsystem number and the title, each if the indicator announces it (3.4.1)
pub record AddressIs (octets : List ℕ) (a : Address) : Type 0 where
  pub indicator : ℕ
  pub pc : List ℕ
  pub ssn : List ℕ
  pub title : List ℕ
  pub parts : octets ≡ indicator ∷ (pc ++ (ssn ++ title))
  pub pc_there : length pc ≡ (if bit indicator 1 then 2 else 0)
  pub ssn_there : length ssn ≡ (if bit indicator 2 then 1 else 0)
  pub national : a.national ≡ bit indicator 8
  pub by_ssn : a.by_ssn ≡ bit indicator 7
  pub pc_is : a.pc ≡ point_code pc
  pub ssn_is : a.ssn ≡ first_of ssn
  pub title_is : TitleIs (bits indicator 3 6) title a.title

-- the selector of a title with digits
abbrev pub selector_in : Title → Option Numbers
selector_in (Global s digits) = Some s
selector_in Absent = None
selector_in (Raw kind octets) = None

-- the digits of a title with digits
abbrev pub digits_in : Title → Option (List ℕ)
digits_in (Global s digits) = Some digits
digits_in Absent = None
digits_in (Raw kind octets) = None
