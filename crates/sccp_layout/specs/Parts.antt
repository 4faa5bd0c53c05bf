-- The parts of a message (ITU-T Q.713 sections 1 and 2). Parts may follow in any order, overlap or leave gaps after the
-- pointers, and what follows the last one is ignored (profile).
use Rattle.std.specs.Prelude.{◌≡◌, ◌≢◌, ℕ, ◌+◌, ◌<◌, ◌≤◌, ◌⊎◌, IsTrue, true, false, List, [], ◌∷◌, ◌++◌, length, drop, slice_get}
use Rattle.std.specs.Prelude.{slice_range, Some}
use Rattle.std.specs.List.{flat_map, AllByRecursion}
use Rattle.sccp_layout.specs.declared.shape.Layout.{Layout}
use Rattle.sccp_layout.specs.declared.parts.Parts.{Parts}
use Rattle.sccp_layout.specs.Parameter.{Parameter}
use Rattle.sccp_layout.specs.Table.{layout_of}
use Rattle.sccp_layout.specs.Places.{pointer, place, after_pointers, names_place, part}
use Rattle.sccp_layout.specs.Joining.{spelled_parameter}

-- parts that are kept apart
abbrev pub parts_made : ℕ → List ℕ → List (List ℕ) → List Parameter → Parts
parts_made code fixed variable params = record { code = code; fixed = fixed; variable = variable; params = params }

-- as many octets and parts as the layout has, and no parameters if it has no optional part
pub record Fits (l : Layout) (p : Parts) : Type 0 where
  pub fixed : length p.fixed ≡ l.fixed
  pub variable : length p.variable ≡ l.variable
  pub params : l.optional ≡ false → p.params ≡ []

-- the parts fit the layout of their type
pub record FitsLayout (p : Parts) : Type 0 where
  pub layout : Layout
  pub of_type : layout_of p.code ≡ Some layout
  pub fits : Fits layout p

-- the octets begin with these parameters, whose names are not 0, and the end octet 00 (3.1)
pub record BeginsWithList (octets : List ℕ) (params : List Parameter) : Type 0 where
  pub rest : List ℕ
  pub spelled : octets ≡ flat_map spelled_parameter params ++ 0 ∷ rest
  pub named : AllByRecursion (λ p. p.name ≢ 0) params

-- the optional parameters: none, or those at the place that their pointer names
abbrev pub ParamsAre : Layout → List ℕ → List Parameter → Type 0
ParamsAre l b params =
    (((l.optional ≡ false) ⊎ (pointer l b l.variable ≡ 0)) × (params ≡ []))
    ⊎ ((l.optional ≡ true) × IsTrue (names_place l b l.variable) × BeginsWithList (drop (place l b l.variable) b) params)

-- b is a message of these parts
pub record HasParts (b : List ℕ) (p : Parts) : Type 0 where
  pub layout : Layout
  pub of_type : layout_of p.code ≡ Some layout
  pub code : slice_get b 0 ≡ Some p.code
  pub pointers : after_pointers layout ≤ length b
  pub fixed : p.fixed ≡ slice_range b 1 (1 + layout.fixed)
  pub count : length p.variable ≡ layout.variable
  pub variable : (i : ℕ) → i < layout.variable → IsTrue (names_place layout b i) × (part layout b i ≡ slice_get p.variable i)
  pub params : ParamsAre layout b p.params
