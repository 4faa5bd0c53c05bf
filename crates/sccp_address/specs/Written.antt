-- The one way to write an address (ITU-T Q.713 section 3.4): spare bits and the filler are 0, which is this project's choice.
use Rattle.std.specs.Prelude.{◌≡◌, ℕ, ◌+◌, ◌*◌, ◌/◌, ◌%◌, ◌^◌, ◌<◌, ◌≤◌, Bool, ◌==◌, if◌then◌else◌, is_some, IfSome, List, [], ◌∷◌, ◌++◌}
use Rattle.std.specs.Prelude.{length, Option, Some, None}
use Rattle.std.specs.Prelude.{⊤}
use Rattle.std.specs.List.{AllByRecursion}
use Rattle.std.specs.Option.{option_to_list}
use Rattle.sccp_base.specs.Bcd.{packed}
use Rattle.sccp_base.specs.Selector.{Numbers, IsSelector}
use Rattle.sccp_address.specs.declared.address.Address.{Address}
use Rattle.sccp_address.specs.declared.address.Title.{Title}
use Rattle.sccp_address.specs.declared.address.Title.TheVariants.{Absent, Global, Raw}
use Rattle.sccp_address.specs.Addresses.{IsKept}

-- the bit of a flag
abbrev pub flag : Bool → ℕ
flag b = if b then 1 else 0

-- the octets of a point code, the low one first (3.4.2.1)
abbrev pub point_code_octets : Option ℕ → List ℕ
point_code_octets None = []
point_code_octets (Some pc) = pc % 256 ∷ pc / 256 ∷ []

-- the octets before the digits, by the kind of the title; the scheme is 1 for an odd number of digits, else 2 (3.4.2.3)
abbrev pub heading : Numbers → Bool → List ℕ
heading s odd =
    let scheme = if odd then 1 else 2 in
    if s.kind == 1 then (s.nature + 128 * flag odd) ∷ []
    else if s.kind == 2 then s.translation ∷ []
    else if s.kind == 3 then s.translation ∷ (16 * s.plan + scheme) ∷ []
    else s.translation ∷ (16 * s.plan + scheme) ∷ s.nature ∷ []

-- the octets of a title, which are the last of the address
abbrev pub title_octets : Title → List ℕ
title_octets Absent = []
title_octets (Global s digits) = heading s (length digits % 2 == 1) ++ packed digits
title_octets (Raw kind octets) = octets

-- the indicator's number for the title
abbrev pub title_kind : Title → ℕ
title_kind Absent = 0
title_kind (Global s digits) = s.kind
title_kind (Raw kind octets) = kind

-- the address indicator (3.4.1)
abbrev pub indicator_of : Address → ℕ
indicator_of a = flag (is_some a.pc) + 2 * flag (is_some a.ssn) + 4 * (title_kind a.title % 16) + 64 * flag a.by_ssn + 128 * flag a.national

-- the octets of an address
abbrev pub written : Address → List ℕ
written a = indicator_of a ∷ (point_code_octets a.pc ++ (option_to_list a.ssn ++ title_octets a.title))

-- A title that read gives or Title::global makes. Kind 2 does not say how many digits it has, so their number is even.
-- What is kept as octets has no other reading.
abbrev pub IsTitle : Title → Type 0
IsTitle Absent = ⊤
IsTitle (Global s digits) = IsSelector s × (length digits ≤ 32) × AllByRecursion (λ d. d < 16) digits × (s.kind ≡ 2 → length digits % 2 ≡ 0)
IsTitle (Raw kind octets) = (kind < 16) × IsKept kind octets

-- An address that read gives, or that is made of such a title. Its numbers are in the ranges of their types.
pub record IsAddress (a : Address) : Type 0 where
  pub pc : IfSome a.pc (λ n. n < 2 ^ 14)
  pub ssn : IfSome a.ssn (λ n. n < 256)
  pub title : IsTitle a.title
