-- A condition that a marking meets is possible; two conditions together; the marks that a marking holds.
use Rattle.std.proofs.Common.{◌≡◌, Bool, true, false, cond, List, [], ◌∷◌, ◌++◌, Some, None, refl, ◌∙◌, ap, not, ◌&&◌, ◌||◌}
use Rattle.std.specs.List.{find, list_all, list_any}
use Rattle.std.proofs.lemmas.Bool.{and_parts}
use Rattle.std.proofs.lemmas.List.Folds.{list_any-append, list_all-append}
use Rattle.sccp_base.specs.Marks.{holds, same_mark}
use Rattle.sccp_base.specs.declared.mark.Mark.{Mark}
use Rattle.sccp_base.specs.MarkOrder.{same_mark_equiv}
use Rattle.sccp_base.proofs.Among.{Among, find-Some, list_any-none}
use Rattle.sccp_base.proofs.MarkPlaces.{same_mark_is}
use Rattle.relay_ways.specs.Conditions.{held, meets, is_possible, both, HoldsOneOf}
use Rattle.relay_ways.specs.declared.condition.Condition.{Condition}

pub not_true : (b : Bool) → not b ≡ true → b ≡ false
not_true true e = absurd cc
not_true false e = refl

-- what a condition says that is met
pub parts_met : (M : List Mark) (c : Condition) → meets M c ≡ true → (list_all (held M) c.one_of ≡ true) × (held M c.none_of ≡ false)
parts_met M c e =
    let p = and_parts (list_all (held M) c.one_of) (not (held M c.none_of)) e in
    (p.0, not_true (held M c.none_of) p.1)

split_and : (a b c d : Bool) → ((a && b) && not (c || d)) ≡ ((a && not c) && (b && not d))
split_and true true true d = refl
split_and true true false d = refl
split_and true false true d = refl
split_and true false false d = refl
split_and false b c d = refl

-- both conditions are met
pub meets_both : (M : List Mark) (c d : Condition) → meets M (both c d) ≡ (meets M c && meets M d)
meets_both M c d =
    rw (list_all-append (held M) c.one_of d.one_of, list_any-append (holds M) c.none_of d.none_of)
    (split_and (list_all (held M) c.one_of) (list_all (held M) d.one_of) (held M c.none_of) (held M d.none_of))

or_false : (a b : Bool) → (a || b) ≡ false → (a ≡ false) × (b ≡ false)
or_false true b e = absurd cc
or_false false b e = (refl, e)

-- a mark that is held is none of those that are free
held_apart : (M : List Mark) (m : Mark) (free : List Mark) → held M free ≡ false → holds M m ≡ true → holds free m ≡ false
held_apart M m [] none at = refl
held_apart M m (f ∷ fs) none at =
    let p = or_false (holds M f) (held M fs) none in
    by (same_mark f m) refl p.0 (held_apart M m fs p.1 at) where
      by : (b : Bool) → same_mark f m ≡ b → holds M f ≡ false → holds fs m ≡ false → (b || holds fs m) ≡ false
      by true e here rest = absurd (off (ap (holds M) (same_mark_is f m e))) where
        off : holds M f ≡ holds M m → ⊥
        off same = absurd cc
      by false e here rest = rest

later : (a b : Bool) → b ≡ true → (a || b) ≡ true
later true b e = refl
later false b e = e

may_hold : (M : List Mark) (free marks : List Mark) → held M free ≡ false → held M marks ≡ true
    → list_any (λ mark. not (holds free mark)) marks ≡ true
may_hold M free [] none some = absurd cc
may_hold M free (m ∷ ms) none some = by (holds M m) refl some (λ h. may_hold M free ms none h) where
  by : (b : Bool) → holds M m ≡ b → (b || held M ms) ≡ true → (held M ms ≡ true → list_any (λ mark. not (holds free mark)) ms ≡ true)
      → list_any (λ mark. not (holds free mark)) (m ∷ ms) ≡ true
  by true e h rest = rw (held_apart M m free none e) refl
  by false e h rest = later (not (holds free m)) (list_any (λ mark. not (holds free mark)) ms) (rest h)

each_possible : (M : List Mark) (free : List Mark) (lists : List (List Mark)) → held M free ≡ false → list_all (held M) lists ≡ true
    → list_all (λ marks. list_any (λ mark. not (holds free mark)) marks) lists ≡ true
each_possible M free [] none all = refl
each_possible M free (l ∷ ls) none all =
    let p = and_parts (held M l) (list_all (held M) ls) all in
    rw (may_hold M free l none p.0) (each_possible M free ls none p.1)

pub met_possible : (M : List Mark) (c : Condition) → meets M c ≡ true → is_possible c ≡ true
met_possible M c e = let p = parts_met M c e in each_possible M c.none_of c.one_of p.1 p.0

-- One more mark is held.

any_at : {X : Type 0} (p : X → Bool) (x : X) (xs : List X) → Among x xs → p x ≡ true → list_any p xs ≡ true
any_at p x xs at e = by (list_any p xs) refl where
  by : (b : Bool) → list_any p xs ≡ b → b ≡ true
  by true f = refl
  by false f = absurd (off (list_any-none p x xs f at) e) where
    off : p x ≡ false → p x ≡ true → ⊥
    off g h = cc

pub nothing_held : (ms : List Mark) → held [] ms ≡ false
nothing_held [] = refl
nothing_held (m ∷ ms) = nothing_held ms

pub find_nothing : {X : Type 0} (p : X → Bool) (xs : List X) → find p xs ≡ None → list_any p xs ≡ false
find_nothing p [] e = refl
find_nothing p (x ∷ xs) e =
    elim (p x) as (λ b. cond b (Some x) (find p xs) ≡ None → (b || list_any p xs) ≡ false) [
      | true ↦ λ h. absurd cc
      | false ↦ λ h. find_nothing p xs h
    ] e

-- the new marking holds m, and what the old one holds
abbrev pub Adds : List Mark → List Mark → Mark → Type 0
Adds old new m = (other : Mark) → holds new other ≡ (same_mark m other || holds old other)

or_true : (a : Bool) → (a || true) ≡ true
or_true true = refl
or_true false = refl

still_held : (old new : List Mark) (m : Mark) (marks : List Mark) → Adds old new m → held old marks ≡ true → held new marks ≡ true
still_held old new m [] adds e = absurd cc
still_held old new m (x ∷ xs) adds e = by (holds old x) refl e (λ h. still_held old new m xs adds h) where
  by : (b : Bool) → holds old x ≡ b → (b || held old xs) ≡ true → (held old xs ≡ true → held new xs ≡ true)
      → (holds new x || held new xs) ≡ true
  by true f h rest = rw (adds x, f) (rw (or_true (same_mark m x)) refl)
  by false f h rest = later (holds new x) (held new xs) (rest h)

each_still : (old new : List Mark) (m : Mark) (lists : List (List Mark)) → Adds old new m → list_all (held old) lists ≡ true
    → list_all (held new) lists ≡ true
each_still old new m [] adds e = refl
each_still old new m (l ∷ ls) adds e =
    let p = and_parts (held old l) (list_all (held old) ls) e in
    rw (still_held old new m l adds p.0) (each_still old new m ls adds p.1)

still_free : (old new : List Mark) (m : Mark) (free : List Mark) → Adds old new m → held old free ≡ false → holds free m ≡ false
    → held new free ≡ false
still_free old new m [] adds none apart = refl
still_free old new m (f ∷ fs) adds none apart =
    let p = or_false (holds old f) (held old fs) none in
    let q = or_false (same_mark f m) (holds fs m) apart in
    rw (adds f, same_mark_equiv.symm m f, q.0, p.0) (still_free old new m fs adds p.1 q.1)

pub holds_one_more : (old new : List Mark) (m : Mark) (marks free : List Mark) (lists : List (List Mark)) → Adds old new m
    → find (λ mark. not (holds free mark)) marks ≡ Some m → HoldsOneOf old lists free → HoldsOneOf new (lists ++ marks ∷ []) free
holds_one_more old new m marks free lists adds found before =
    let at = find-Some (λ mark. not (holds free mark)) m marks found in
    let own : held new marks ≡ true = any_at (holds new) m marks at.0 (adds m ∙ rw (same_mark_equiv.refl m) refl) in
    let may : list_any (λ mark. not (holds free mark)) marks ≡ true = any_at (λ mark. not (holds free mark)) m marks at.0 at.1 in
    record {
      each = list_all-append (held new) lists (marks ∷ []) ∙ rw (each_still old new m lists adds before.each, own) refl;
      free = still_free old new m free adds before.free (not_true (holds free m) at.1);
      allowed = list_all-append (λ ms. list_any (λ mark. not (holds free mark)) ms) lists (marks ∷ []) ∙ rw (before.allowed, may) refl;
    }
