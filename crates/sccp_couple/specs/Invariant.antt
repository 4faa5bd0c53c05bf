-- What every step of a relay's coupling keeps.
use Rattle.std.specs.Prelude.{◌≡◌, ◌≢◌, ℕ, ◌≤◌, true, not, List, [], ◌∷◌, Some, None}
use Rattle.sccp_couple.specs.declared.section.Section.{Section}
use Rattle.sccp_couple.specs.Sections.{section_at}

-- no two sections have the same own reference
abbrev pub OwnDiffer : List Section → Type 0
OwnDiffer [] = Unit {0}
OwnDiffer (s ∷ rest) = (section_at rest s.own ≡ None) × OwnDiffer rest

-- own references differ and lie from 1 to 4,096
pub record IsCoupling (sections : List Section) : Type 0 where
  pub differ : OwnDiffer sections
  pub least : (own : ℕ) (s : Section) → section_at sections own ≡ Some s → 1 ≤ own
  pub most : (own : ℕ) (s : Section) → section_at sections own ≡ Some s → own ≤ 4096
  -- `other` is mutual, and joins a near and a far section
  pub joined : (own : ℕ) (s : Section) (other : ℕ) → section_at sections own ≡ Some s → s.other ≡ Some other
      → (t : Section) × (section_at sections other ≡ Some t) × (t.other ≡ Some own) × (t.near ≡ not s.near)
  -- near sections have a remote, and differ in point and remote
  pub near_has_remote : (own : ℕ) (s : Section) → section_at sections own ≡ Some s → s.near ≡ true → s.remote ≢ None
  pub near_differ : (own with_own : ℕ) (s t : Section) → section_at sections own ≡ Some s → section_at sections with_own ≡ Some t
      → s.near ≡ true → t.near ≡ true → s.point ≡ t.point → s.remote ≡ t.remote → own ≡ with_own
  -- a section without other, which is being released, has a remote
  pub released_has_remote : (own : ℕ) (s : Section) → section_at sections own ≡ Some s → s.other ≡ None → s.remote ≢ None
