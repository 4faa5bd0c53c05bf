-- What a marking holds of the lists of a condition.
use Rattle.std.proofs.Common.{◌≡◌, Bool, true, false, List, [], ◌∷◌, ◌++◌, refl, ◌∙◌, not, ◌&&◌}
use Rattle.std.specs.List.{list_all}
use Rattle.std.proofs.lemmas.List.Folds.{list_any-append, list_all-append}
use Rattle.sccp_base.specs.Marks.{holds}
use Rattle.sccp_base.specs.declared.mark.Mark.{Mark}
use Rattle.relay_ways.specs.Conditions.{condition, held, meets}

both_true : (a b : Bool) → a ≡ true → b ≡ false → (a && not b) ≡ true
both_true true false e f = refl
both_true true true e f = absurd cc
both_true false b e f = absurd cc

pub met : (M : List Mark) (before : List (List Mark)) (free : List Mark) → list_all (held M) before ≡ true → held M free ≡ false
    → meets M (condition before free) ≡ true
met M before free all none = both_true (list_all (held M) before) (held M free) all none

-- one more list of which a mark is held
pub one_more : (M : List Mark) (before : List (List Mark)) (own : List Mark) → list_all (held M) before ≡ true → held M own ≡ true
    → list_all (held M) (before ++ own ∷ []) ≡ true
one_more M before own all some = list_all-append (held M) before (own ∷ []) ∙ rw (all, some) refl

-- one more mark that is free
pub one_free : (M : List Mark) (free : List Mark) (m : Mark) → held M free ≡ false → holds M m ≡ false → held M (free ++ m ∷ []) ≡ false
one_free M free m none open_one = list_any-append (holds M) free (m ∷ []) ∙ rw (none, open_one) refl
