-- What a marking must hold, and what it must not.
use Rattle.std.specs.Prelude.{◌≡◌, Bool, true, false, not, ◌&&◌, List, [], ◌++◌}
use Rattle.std.specs.List.{list_all, list_any}
use Rattle.sccp_base.specs.Marks.{holds, IsMarking}
use Rattle.sccp_base.specs.declared.mark.Mark.{Mark}
use Rattle.relay_ways.specs.declared.condition.Condition.{Condition}

-- a mark of the list is held
abbrev pub held : List Mark → List Mark → Bool
held marking marks = list_any (holds marking) marks

-- the marking holds a mark of each list of one_of, and no mark of none_of
abbrev pub meets : List Mark → Condition → Bool
meets marking c = list_all (held marking) c.one_of && not (held marking c.none_of)

-- some marking meets it
abbrev pub IsPossible : Condition → Type 0
IsPossible c = (marking : List Mark) × IsMarking marking × (meets marking c ≡ true)

-- the same as a test: each list has a mark that may be held
abbrev pub is_possible : Condition → Bool
is_possible c = list_all (λ marks. list_any (λ mark. not (holds c.none_of mark)) marks) c.one_of

abbrev pub condition : List (List Mark) → List Mark → Condition
condition one_of none_of = record { one_of = one_of; none_of = none_of }

-- each marking meets it
abbrev pub always : Condition
always = condition [] []

-- both conditions together
abbrev pub both : Condition → Condition → Condition
both c d = condition (c.one_of ++ d.one_of) (c.none_of ++ d.none_of)

-- A marking that holds a mark of each of these lists, and none of those that must be free. Each list has a mark that may be held.
pub record HoldsOneOf (marking : List Mark) (lists : List (List Mark)) (none_of : List Mark) : Type 0 where
  pub each : list_all (held marking) lists ≡ true
  pub free : held marking none_of ≡ false
  pub allowed : list_all (λ marks. list_any (λ mark. not (holds none_of mark)) marks) lists ≡ true
