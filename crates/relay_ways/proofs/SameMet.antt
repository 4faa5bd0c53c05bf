-- The shortest form of a condition is met by the same markings.
use Rattle.std.proofs.Common.{◌≡◌, Bool, true, false, cond, List, [], ◌∷◌, ◌++◌, refl, sym, ◌∙◌, ap, not, ◌&&◌, ◌||◌}
use Rattle.std.specs.Prelude.{if◌then◌else◌, Result, Ok, Err, IfOk}
use Rattle.std.specs.Cmp.Lexicographic.{pointwise}
use Rattle.std.specs.List.{list_all}
use Rattle.std.proofs.lemmas.Bool.{and_parts}
use Rattle.std.proofs.lemmas.List.Folds.{list_any-append, list_all-append}
use Rattle.sccp_base.specs.Marks.{holds, same_mark}
use Rattle.sccp_base.specs.declared.mark.Mark.{Mark}
use Rattle.sccp_base.specs.declared.out_of_memory.OutOfMemory.{OutOfMemory}
use Rattle.sccp_base.proofs.MarkPlaces.{same_mark_is}
use Rattle.relay_ways.specs.Conditions.{held, meets}
use Rattle.relay_ways.specs.Settled.{allowed, with_mark, with_marks, has_list, with_list, with_lists, settled}
use Rattle.relay_ways.specs.declared.condition.Condition.{Condition}

or_same : (a b : Bool) → (b ≡ true → a ≡ true) → (a || b) ≡ a
or_same true b f = refl
or_same false true f = sym (f refl)
or_same false false f = refl

or_assoc : (a b c : Bool) → ((a || b) || c) ≡ (a || (b || c))
or_assoc true b c = refl
or_assoc false b c = refl

or_none : (a : Bool) → (a || false) ≡ a
or_none true = refl
or_none false = refl

pub or_left : (a b : Bool) → a ≡ true → (a || b) ≡ true
or_left true b e = refl
or_left false b e = absurd cc

pub or_right : (a b : Bool) → b ≡ true → (a || b) ≡ true
or_right true b e = refl
or_right false b e = e

-- a mark that is there is held no less
there_held : (M found : List Mark) (m : Mark) → holds found m ≡ true → holds M m ≡ true → held M found ≡ true
there_held M [] m at h = absurd cc
there_held M (x ∷ xs) m at h = by (same_mark x m) refl at (λ f. there_held M xs m f h) where
  by : (b : Bool) → same_mark x m ≡ b → (b || holds xs m) ≡ true → (holds xs m ≡ true → held M xs ≡ true)
      → (holds M x || held M xs) ≡ true
  by true e f rest = or_left (holds M x) (held M xs) (ap (holds M) (same_mark_is x m e) ∙ h)
  by false e f rest = or_right (holds M x) (held M xs) (rest f)

held_with : (M found : List Mark) (m : Mark) → held M (with_mark found m) ≡ (held M found || holds M m)
held_with M found m = by (holds found m) refl where
  by : (b : Bool) → holds found m ≡ b → held M (if b then found else found ++ m ∷ []) ≡ (held M found || holds M m)
  by true e = sym (or_same (held M found) (holds M m) (there_held M found m e))
  by false e = list_any-append (holds M) found (m ∷ []) ∙ ap (λ b. held M found || b) (or_none (holds M m))

held_withs : (M found marks : List Mark) → held M (with_marks found marks) ≡ (held M found || held M marks)
held_withs M found [] = sym (or_none (held M found))
held_withs M found (m ∷ ms) =
    held_withs M (with_mark found m) ms
    ∙ ap (λ b. b || held M ms) (held_with M found m)
    ∙ or_assoc (held M found) (holds M m) (held M ms)

and_same : (a b : Bool) → (a ≡ true → b ≡ true) → (a && b) ≡ a
and_same true b f = f refl
and_same false b f = refl

and_assoc : (a b c : Bool) → ((a && b) && c) ≡ (a && (b && c))
and_assoc true b c = refl
and_assoc false b c = refl

and_all : (a : Bool) → (a && true) ≡ a
and_all true = refl
and_all false = refl

-- lists of the same marks
same_list : (a b : List Mark) → pointwise same_mark a b ≡ true → a ≡ b
same_list [] [] e = refl
same_list [] (y ∷ ys) e = absurd cc
same_list (x ∷ xs) [] e = absurd cc
same_list (x ∷ xs) (y ∷ ys) e =
    let p = and_parts (same_mark x y) (pointwise same_mark xs ys) e in
    ap (λ z. z ∷ xs) (same_mark_is x y p.0) ∙ ap (λ zs. y ∷ zs) (same_list xs ys p.1)

there_all : (M : List Mark) (found : List (List Mark)) (l : List Mark) → has_list found l ≡ true → list_all (held M) found ≡ true
    → held M l ≡ true
there_all M [] l at h = absurd cc
there_all M (x ∷ xs) l at h =
    let p = and_parts (held M x) (list_all (held M) xs) h in
    by (pointwise same_mark x l) refl at p.0 (λ f. there_all M xs l f p.1) where
      by : (b : Bool) → pointwise same_mark x l ≡ b → (b || has_list xs l) ≡ true → held M x ≡ true
          → (has_list xs l ≡ true → held M l ≡ true) → held M l ≡ true
      by true e f here rest = ap (held M) (sym (same_list x l e)) ∙ here
      by false e f here rest = rest f

all_with : (M : List Mark) (found : List (List Mark)) (l : List Mark)
    → list_all (held M) (with_list found l) ≡ (list_all (held M) found && held M l)
all_with M found l = by (has_list found l) refl where
  by : (b : Bool) → has_list found l ≡ b
      → list_all (held M) (if b then found else found ++ l ∷ []) ≡ (list_all (held M) found && held M l)
  by true e = sym (and_same (list_all (held M) found) (held M l) (there_all M found l e))
  by false e = list_all-append (held M) found (l ∷ []) ∙ ap (λ b. list_all (held M) found && b) (and_all (held M l))

-- a held mark may be held
held_allowed : (M free marks : List Mark) → held M free ≡ false → held M (allowed free marks) ≡ held M marks
held_allowed M free [] none = refl
held_allowed M free (m ∷ ms) none = by (holds free m) refl (held_allowed M free ms none) where
  by : (b : Bool) → holds free m ≡ b → held M (allowed free ms) ≡ held M ms
      → held M (cond (not b) (m ∷ allowed free ms) (allowed free ms)) ≡ (holds M m || held M ms)
  by true e rest = rest ∙ off (holds M m) refl where
    off : (h : Bool) → holds M m ≡ h → held M ms ≡ (h || held M ms)
    off true f = absurd (no (there_held M free m e f)) where
      no : held M free ≡ true → ⊥
      no g = absurd cc
    off false f = refl
  by false e rest = ap (λ b. holds M m || b) rest

all_withs : (M free : List Mark) (found lists : List (List Mark)) → held M free ≡ false
    → list_all (held M) (with_lists free found lists) ≡ (list_all (held M) found && list_all (held M) lists)
all_withs M free found [] none = sym (and_all (list_all (held M) found))
all_withs M free found (l ∷ ls) none =
    all_withs M free (with_list found (allowed free l)) ls none
    ∙ ap (λ b. b && list_all (held M) ls) (all_with M found (allowed free l)
    ∙ ap (λ b. list_all (held M) found && b) (held_allowed M free l none))
    ∙ and_assoc (list_all (held M) found) (held M l) (list_all (held M) ls)

pub settled_met : (M : List Mark) (c : Condition) → meets M (settled c) ≡ meets M c
settled_met M c =
    ap (λ b. list_all (held M) (with_lists c.none_of [] c.one_of) && not b) (held_withs M [] c.none_of)
    ∙ by (held M c.none_of) refl
  where
    by : (b : Bool) → held M c.none_of ≡ b
        → (list_all (held M) (with_lists c.none_of [] c.one_of) && not b) ≡ (list_all (held M) c.one_of && not b)
    by true e = none (list_all (held M) (with_lists c.none_of [] c.one_of)) (list_all (held M) c.one_of) where
      none : (x y : Bool) → (x && false) ≡ (y && false)
      none true true = refl
      none true false = refl
      none false true = refl
      none false false = refl
    by false e = ap (λ b. b && true) (all_withs M c.none_of [] c.one_of e)

pub settled_result : (c : Condition) (r : Result Condition OutOfMemory) → IfOk r (λ x. x ≡ settled c)
    → IfOk r (λ x. (M : List Mark) → meets M x ≡ meets M c)
settled_result c (Ok x) e = λ M. ap (meets M) e ∙ settled_met M c
settled_result c (Err fault) e = tt
