-- The terms of the laws: what they say of one event after a run.
use Rattle.std.specs.Prelude.{◌≡◌, ℕ, ◌⊎◌, true, false, List, [], ◌∷◌, Some, Contains}
use Rattle.sccp_couple.specs.declared.section.Section.{Section}
use Rattle.sccp_couple.specs.Sections.{section_at}
use Rattle.sccp_couple.specs.Events.{Event, Answer, Piece, Data}
use Rattle.sccp_couple.specs.Runs.{Pair, Moment, knows, is_open, sent_in}

-- no established section knows the event
abbrev pub IsUnheard : List Section → Event → Type 0
IsUnheard sections event = (own : ℕ) → knows sections own event ≡ true → is_open sections (section_at sections own) ≡ false

-- no two sections that have a remote have the same point and remote
abbrev pub AreApart : List Section → Type 0
AreApart sections =
    (own with_own remote : ℕ) (s t : Section) → section_at sections own ≡ Some s → section_at sections with_own ≡ Some t →
    s.remote ≡ Some remote → t.remote ≡ Some remote → s.point ≡ t.point → own ≡ with_own

-- only the section with this own reference has this point and remote
pub record IsAlone (sections : List Section) (own to dlr : ℕ) : Type 0 where
  pub section : Section
  pub at : section_at sections own ≡ Some section
  pub point : section.point ≡ to
  pub remote : section.remote ≡ Some dlr
  pub alone : (other : ℕ) (s : Section) → section_at sections other ≡ Some s → s.point ≡ to → s.remote ≡ Some dlr → other ≡ own

-- the event adds this piece to what is sent to the section `own` of the standing pair
abbrev pub AddsAt : List Section → Event → Pair → ℕ → Piece → Type 0
AddsAt sections event p own piece =
    ((own ≡ p.near) × (sent_in sections p.near p.far event ≡ piece ∷ []))
    ⊎ ((own ≡ p.far) × (sent_in sections p.far p.near event ≡ piece ∷ []))

-- a DT1 goes to one section only, and that is one of the pair whose `sent` lists have the DT1
pub record IsAddressed (m : Moment) (event : Event) (sent : Answer) (d : Data) : Type 0 where
  pub own : ℕ
  pub goes : IsAlone m.sections own sent.to d.dlr
  pub pair : Pair
  pub among : Contains m.pairs pair
  pub stands : pair.stands ≡ true
  pub adds : AddsAt m.sections event pair own d.piece
