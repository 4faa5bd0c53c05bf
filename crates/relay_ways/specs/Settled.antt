-- A condition in its shortest form: without marks that cannot count, and with each list and each mark once.
use Rattle.std.specs.Prelude.{Bool, not, if◌then◌else◌, List, [], ◌∷◌, ◌++◌}
use Rattle.std.specs.Cmp.Lexicographic.{pointwise}
use Rattle.std.specs.List.{filter, list_any}
use Rattle.sccp_base.specs.Marks.{holds, same_mark}
use Rattle.sccp_base.specs.declared.mark.Mark.{Mark}
use Rattle.relay_ways.specs.Conditions.{condition}
use Rattle.relay_ways.specs.declared.condition.Condition.{Condition}

-- the marks of a list that may be held
abbrev pub allowed : List Mark → List Mark → List Mark
allowed none_of marks = filter (λ mark. not (holds none_of mark)) marks

-- a mark is put at the end, unless it is there
abbrev pub with_mark : List Mark → Mark → List Mark
with_mark found mark = if holds found mark then found else found ++ mark ∷ []

abbrev pub with_marks : List Mark → List Mark → List Mark
with_marks found [] = found
with_marks found (mark ∷ marks) = with_marks (with_mark found mark) marks

-- one of the lists has the same marks in the same order
abbrev pub has_list : List (List Mark) → List Mark → Bool
has_list lists marks = list_any (λ other. pointwise same_mark other marks) lists

-- a list is put at the end, unless it is there
abbrev pub with_list : List (List Mark) → List Mark → List (List Mark)
with_list found marks = if has_list found marks then found else found ++ marks ∷ []

abbrev pub with_lists : List Mark → List (List Mark) → List (List Mark) → List (List Mark)
with_lists none_of found [] = found
with_lists none_of found (marks ∷ lists) = with_lists none_of (with_list found (allowed none_of marks)) lists

-- the shortest form of a condition
abbrev pub settled : Condition → Condition
settled c = condition (with_lists c.none_of [] c.one_of) (with_marks [] c.none_of)
