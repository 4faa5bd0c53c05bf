-- A marking, as its ascending list, after marks are prohibited or allowed.
use Rattle.std.specs.Prelude.{◌≡◌, ℕ, Bool, false, not, List, ◌∷◌, ◌++◌, filter, fold}
use Rattle.std.specs.Ordering.{is_lt, is_gt}
use Rattle.sccp_base.specs.declared.mark.Mark.{Mark}
use Rattle.sccp_base.specs.declared.mark.Mark.TheVariants.{PointCode, Sccp}
use Rattle.sccp_base.specs.Marks.{mark_cmp, holds}

-- the list with a mark in its place among the others
abbrev pub with_mark : List Mark → Mark → List Mark
with_mark marking mark = filter (λ held. is_lt (mark_cmp held mark)) marking ++ mark ∷ filter (λ held. is_gt (mark_cmp held mark)) marking

-- the list with each of these marks
abbrev pub with_marks : List Mark → List Mark → List Mark
with_marks marking marks = fold with_mark marking marks

-- the list without the marks that are allowed
abbrev pub without_marks : (Mark → Bool) → List Mark → List Mark
without_marks allowed marking = filter (λ held. not (allowed held)) marking

-- neither a point nor its SCCP is prohibited
abbrev pub IsOpenAt : ℕ → List Mark → Type 0
IsOpenAt point marking = (holds marking (PointCode point) ≡ false) × (holds marking (Sccp point) ≡ false)
