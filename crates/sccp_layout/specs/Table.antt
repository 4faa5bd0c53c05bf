-- The types of message: their codes and their parts (ITU-T Q.713 sections 2.1 and 4). Which optional parameters have their
-- contents tested is this project's choice.
use Rattle.std.specs.Prelude.{ℕ, ◌==◌, Bool, true, false, if◌then◌else◌, List, [], ◌∷◌, Option, Some, None, option_map, map, ◌≡◌, refl}
use Rattle.std.specs.List.{range_with_len}
use Rattle.sccp_layout.specs.declared.shape.Layout.{Layout}

-- a type of message: its code and its parts
pub record Row : Type 0 where
  pub code : ℕ
  pub layout : Layout
  -- how many of the variable parts are addresses; one more is data
  pub addresses : ℕ
  -- the optional parameters whose contents are tested
  pub known : List ℕ

-- Code, octets of the fixed part, variable parts, addresses among them, whether an optional part may follow, and which
-- parameters in it are known.
abbrev pub type : ℕ → ℕ → ℕ → ℕ → Bool → List ℕ → Row
type code fixed variable addresses optional known = record {
  code = code;
  layout = record
      { fixed = fixed; variable = variable; optional = optional; long = false };
  addresses = addresses;
  known = known;
}

-- the same for a type whose pointers and length of data have two octets
abbrev pub long_type : ℕ → ℕ → ℕ → ℕ → Bool → List ℕ → Row
long_type code fixed variable addresses optional known =
    record {
      code = code;
      layout = record
          { fixed = fixed; variable = variable; optional = optional; long = true };
      addresses = addresses;
      known = known;
    }

-- a layout whose pointers have one octet
abbrev pub short_layout : ℕ → ℕ → Bool → Option Layout
short_layout fixed variable optional = Some (record { fixed = fixed; variable = variable; optional = optional; long = false })

-- a layout whose pointers have two octets
abbrev pub long_layout : ℕ → ℕ → Bool → Option Layout
long_layout fixed variable optional = Some (record { fixed = fixed; variable = variable; optional = optional; long = true })

-- names of optional parameters (3)
abbrev pub called : ℕ
called = 0x03

abbrev pub calling : ℕ
calling = 0x04

abbrev pub credit : ℕ
credit = 0x09

abbrev pub payload : ℕ
payload = 0x0F

abbrev pub segmentation : ℕ
segmentation = 0x10

abbrev pub hops : ℕ
hops = 0x11

abbrev pub importance : ℕ
importance = 0x12

-- the twenty types
abbrev pub rows : List Row
rows =
    type 0x01 4 1 1 true (credit ∷ calling ∷ payload ∷ hops ∷ importance ∷ []) ∷  -- CR
    type 0x02 7 0 0 true (credit ∷ called ∷ payload ∷ importance ∷ []) ∷  -- CC
    type 0x03 4 0 0 true (called ∷ payload ∷ importance ∷ []) ∷  -- CREF
    type 0x04 7 0 0 true (payload ∷ importance ∷ []) ∷  -- RLSD
    type 0x05 6 0 0 false [] ∷  -- RLC
    type 0x06 4 1 0 false [] ∷  -- DT1
    type 0x07 5 1 0 false [] ∷  -- DT2
    type 0x08 5 0 0 false [] ∷  -- AK
    type 0x09 1 3 2 false [] ∷  -- UDT
    type 0x0A 1 3 2 false [] ∷  -- UDTS
    type 0x0B 3 1 0 false [] ∷  -- ED
    type 0x0C 3 0 0 false [] ∷  -- EA
    type 0x0D 7 0 0 false [] ∷  -- RSR
    type 0x0E 6 0 0 false [] ∷  -- RSC
    type 0x0F 4 0 0 false [] ∷  -- ERR
    type 0x10 10 0 0 false [] ∷  -- IT
    type 0x11 2 3 2 true (segmentation ∷ importance ∷ []) ∷  -- XUDT
    type 0x12 2 3 2 true (segmentation ∷ importance ∷ []) ∷  -- XUDTS
    long_type 0x13 2 3 2 true (segmentation ∷ importance ∷ []) ∷  -- LUDT
    long_type 0x14 2 3 2 true (segmentation ∷ importance ∷ []) ∷  -- LUDTS
    []

-- the codes are 01 to 14 hexadecimal in order, so each is there once
pub codes : map (λ r. r.code) rows ≡ range_with_len 1 20
codes = refl

-- the first row of a code
abbrev pub row_in : List Row → ℕ → Option Row
row_in [] code = None
row_in (r ∷ rs) code = if code == r.code then Some r else row_in rs code

-- the row of a code
abbrev pub row : ℕ → Option Row
row code = row_in rows code

-- the parts of the type with a code, if there is one
abbrev pub layout_of : ℕ → Option Layout
layout_of code = option_map (λ r. r.layout) (row code)
