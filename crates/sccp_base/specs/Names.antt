-- Names of nodes, and how one is kept in an array of 16 octets.
use Rattle.std.specs.Prelude.{◌≡◌, ℕ, ◌-◌, ◌≤◌, ◌++◌, Bool, true, ◌&&◌, ◌||◌, ◌==◌, nat_le, if◌then◌else◌, List, length, take, drop}
use Rattle.std.specs.Prelude.{replicate, Option, Some, None}
use Rattle.std.specs.List.{All, list_all}
use Rattle.std.specs.Char.{is_ascii_alphanumeric}
use Rattle.std.proofs.Common.{arith, length-take-le, take-append-drop}
use Rattle.sccp_base.specs.declared.name.Name.TheInside.{Inside}

-- an ASCII letter, a digit, `_` (95) or `-` (45)
abbrev pub is_name_octet : ℕ → Bool
is_name_octet c = is_ascii_alphanumeric c || (c == 95) || (c == 45)

-- the text is a name: 1 to 16 octets that a name may have
pub record IsName (text : List ℕ) : Type 0 where
  pub some : 1 ≤ length text
  pub most : length text ≤ 16
  pub each : All (λ c. is_name_octet c ≡ true) text

-- the text itself, if it is a name
unfoldable pub name_of : List ℕ → Option (List ℕ)
name_of text = if nat_le 1 (length text) && nat_le (length text) 16 && list_all is_name_octet text then Some text else None

-- the name is the front, and 0 follows after it
pub record IsNameLaidOut (n : Inside) : Type 0 where
  pub name : IsName (take n.len n.octets)
  pub limit : n.len ≤ 16
  pub whole : length n.octets ≡ 16
  pub behind : drop n.len n.octets ≡ replicate (16 - n.len) 0

-- the name that an array holds
abbrev pub name_shown : Inside → List ℕ
name_shown n = take n.len n.octets

-- the array that holds this name
abbrev pub name_laid_out : List ℕ → Inside
name_laid_out text = record { octets = text ++ replicate (16 - length text) 0; len = length text }

-- laying out what an array shows gives that array
pub name_laid_out-shown : (n : Inside) → IsNameLaidOut n → name_laid_out (name_shown n) ≡ n
name_laid_out-shown n h =
    let size : length (name_shown n) ≡ n.len = length-take-le n.len n.octets (omega (arith, h.limit, h.whole)) in
    let whole : name_shown n ++ replicate (16 - length (name_shown n)) 0 ≡ n.octets =
    rw size (rw (← h.behind) (take-append-drop n.len n.octets)) in
    λ i. record { octets = whole i; len = size i }
