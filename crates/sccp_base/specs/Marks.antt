-- What is prohibited: marks, their order, and which of them a marking holds.
use Rattle.std.specs.Prelude.{◌≡◌, ℕ, ◌+◌, ◌<◌, ◌≤◌, Bool, false, ◌&&◌, ◌==◌, List, length, slice_index_or, Result, Ok, Err}
use Rattle.std.specs.List.{All, list_any, AllPairs, AllWithin}
use Rattle.std.specs.Ordering.{nat_cmp, on, then_cmp}
use Rattle.std.specs.declared.cmp.Ordering.{Ordering}
use Rattle.std.specs.declared.cmp.Ordering.TheVariants.{Less, Greater}
use Rattle.sccp_base.specs.declared.mark.Mark.{Mark}
use Rattle.sccp_base.specs.declared.mark.Mark.TheVariants.{PointCode, Sccp, Subsystem}

-- the point code of a mark
abbrev pub point_of : Mark → ℕ
point_of (PointCode point) = point
point_of (Sccp point) = point
point_of (Subsystem point ssn) = point

-- the mark is at that point
abbrev pub is_at : ℕ → Mark → Bool
is_at point mark = point_of mark == point

-- at one point the signalling point is first, then its SCCP, then its subsystems by their numbers
abbrev pub place_at_point : Mark → ℕ
place_at_point (PointCode point) = 0
place_at_point (Sccp point) = 1
place_at_point (Subsystem point ssn) = 2 + ssn

-- the order of marks: by point code, and then by the place at the point
abbrev pub mark_cmp : Mark → Mark → Ordering
mark_cmp = then_cmp (on point_of nat_cmp) (on place_at_point nat_cmp)

-- the two marks have the same variant and the same numbers
abbrev pub same_mark : Mark → Mark → Bool
same_mark (PointCode a) (PointCode b) = a == b
same_mark (Sccp a) (Sccp b) = a == b
same_mark (Subsystem a s) (Subsystem b t) = a == b && s == t
same_mark (PointCode a) (Sccp b) = false
same_mark (PointCode a) (Subsystem b t) = false
same_mark (Sccp a) (PointCode b) = false
same_mark (Sccp a) (Subsystem b t) = false
same_mark (Subsystem a s) (PointCode b) = false
same_mark (Subsystem a s) (Sccp b) = false

-- the mark is one of those prohibited
abbrev pub holds : List Mark → Mark → Bool
holds marking mark = list_any (λ held. same_mark held mark) marking

-- each mark is below those after it
abbrev pub IsAscending : List Mark → Type 0
IsAscending marks = AllPairs (λ a b. mark_cmp a b ≡ Less) marks

-- the numbers of a mark are a point code and a subsystem number
abbrev pub IsMark : Mark → Type 0
IsMark (PointCode point) = point < 16384
IsMark (Sccp point) = point < 16384
IsMark (Subsystem point ssn) = (point < 16384) × (ssn < 256)

-- what a marking can be: marks of real points, each below those after it
pub record IsMarking (marks : List Mark) : Type 0 where
  pub ascending : IsAscending marks
  pub real : All IsMark marks

-- the mark is at that place
pub record IsAt (marks : List Mark) (mark : Mark) (place : ℕ) : Type 0 where
  pub inside : place < length marks
  pub same : (d : Mark) → slice_index_or marks place d ≡ mark

-- the mark is missing, and that place parts the marks below it from those above it
pub record BelongsAt (marks : List Mark) (mark : Mark) (place : ℕ) : Type 0 where
  pub inside : place ≤ length marks
  pub below : AllWithin (λ other. mark_cmp other mark ≡ Less) marks 0 place
  pub above : AllWithin (λ other. mark_cmp other mark ≡ Greater) marks place (length marks)

-- the answer of a search: the mark's place, or the place at which it may be inserted
abbrev pub IsPlaceOf : List Mark → Mark → Result ℕ ℕ → Type 0
IsPlaceOf marks mark (Ok place) = IsAt marks mark place
IsPlaceOf marks mark (Err place) = BelongsAt marks mark place
