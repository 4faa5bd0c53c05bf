-- The markings that begin one after the other are enough, and fewer are not.
use Rattle.std.proofs.Common.{◌≡◌, ◌+◌, suc, Bool, true, false, cond, List, [], ◌∷◌, ◌++◌, length, Some, refl, sym, ◌∙◌, ap, subst, not}
use Rattle.std.proofs.Common.{◌||◌, arith}
use Rattle.std.specs.Prelude.{◌≤◌, if◌then◌else◌}
use Rattle.std.specs.List.{All, AllByRecursion, flat_map, list_all, list_any}
use Rattle.std.proofs.lemmas.Bool.{and_parts, and_from}
use Rattle.std.proofs.lemmas.List.Elements.{All-from_recursion, recursion_from_All}
use Rattle.sccp_base.specs.Marks.{holds, same_mark}
use Rattle.sccp_base.specs.MarkOrder.{same_mark_equiv}
use Rattle.sccp_base.specs.declared.mark.Mark.{Mark}
use Rattle.sccp_base.proofs.MarkPlaces.{same_mark_is}
use Rattle.relay_ways.specs.Conditions.{held, meets, both, is_possible}
use Rattle.relay_ways.specs.Settled.{settled, allowed}
use Rattle.relay_ways.specs.Markings.{markings_from, markings, AreMet, joined_parts, AreParts}
use Rattle.relay_ways.specs.declared.condition.Condition.{Condition}
use Rattle.relay_ways.proofs.Possible.{meets_both, met_possible}
use Rattle.relay_ways.proofs.SameMet.{settled_met, or_left, or_right}

-- A possible condition is met: by all marks of its lists that may be held.

holds_allowed : (free marks : List Mark) (m : Mark) → holds marks m ≡ true → holds free m ≡ false → holds (allowed free marks) m ≡ true
holds_allowed free [] m at apart = absurd cc
holds_allowed free (x ∷ xs) m at apart =
    by (holds free x) refl (same_mark x m) refl at (λ h. holds_allowed free xs m h apart) where
      by : (b : Bool) → holds free x ≡ b → (s : Bool) → same_mark x m ≡ s → (s || holds xs m) ≡ true
          → (holds xs m ≡ true → holds (allowed free xs) m ≡ true)
          → holds (cond (not b) (x ∷ allowed free xs) (allowed free xs)) m ≡ true
      by true e true f h rest = absurd (off (sym e ∙ ap (holds free) (same_mark_is x m f) ∙ apart)) where
        off : true ≡ false → ⊥
        off g = cc
      by true e false f h rest = rest h
      by false e true f h rest = or_left (same_mark x m) (holds (allowed free xs) m) f
      by false e false f h rest = or_right (same_mark x m) (holds (allowed free xs) m) (rest h)

free_allowed : (free marks : List Mark) (m : Mark) → holds free m ≡ true → holds (allowed free marks) m ≡ false
free_allowed free [] m at = refl
free_allowed free (x ∷ xs) m at = by (holds free x) refl (free_allowed free xs m at) where
  by : (b : Bool) → holds free x ≡ b → holds (allowed free xs) m ≡ false
      → holds (cond (not b) (x ∷ allowed free xs) (allowed free xs)) m ≡ false
  by true e rest = rest
  by false e rest = next (same_mark x m) refl where
    next : (s : Bool) → same_mark x m ≡ s → (s || holds (allowed free xs) m) ≡ false
    next true f = absurd (off (sym e ∙ ap (holds free) (same_mark_is x m f) ∙ at)) where
      off : false ≡ true → ⊥
      off g = cc
    next false f = rest

none_free : (free marks some : List Mark) → ((m : Mark) → holds some m ≡ true → holds free m ≡ true)
    → held (allowed free marks) some ≡ false
none_free free marks [] f = refl
none_free free marks (x ∷ xs) f =
    rw (free_allowed free marks x (f x (or_left (same_mark x x) (holds xs x) (same_mark_equiv.refl x))))
    (none_free free marks xs (λ m at. f m (or_right (same_mark x m) (holds xs m) at)))

one_held : (free marks some : List Mark) → ((m : Mark) → holds some m ≡ true → holds marks m ≡ true)
    → list_any (λ mark. not (holds free mark)) some ≡ true → held (allowed free marks) some ≡ true
one_held free marks [] f e = absurd cc
one_held free marks (x ∷ xs) f e =
    by (holds free x) refl e (λ h. one_held free marks xs (λ m at. f m (or_right (same_mark x m) (holds xs m) at)) h) where
      by : (b : Bool) → holds free x ≡ b → (not b || list_any (λ mark. not (holds free mark)) xs) ≡ true
          → (list_any (λ mark. not (holds free mark)) xs ≡ true → held (allowed free marks) xs ≡ true)
          → (holds (allowed free marks) x || held (allowed free marks) xs) ≡ true
      by true g h rest = or_right (holds (allowed free marks) x) (held (allowed free marks) xs) (rest h)
      by false g h rest =
          or_left (holds (allowed free marks) x) (held (allowed free marks) xs)
          (holds_allowed free marks x (f x (or_left (same_mark x x) (holds xs x) (same_mark_equiv.refl x))) g)

holds_append : (xs ys : List Mark) (m : Mark) → holds (xs ++ ys) m ≡ (holds xs m || holds ys m)
holds_append [] ys m = refl
holds_append (x ∷ xs) ys m = by (same_mark x m) (holds_append xs ys m) where
  by : (b : Bool) → holds (xs ++ ys) m ≡ (holds xs m || holds ys m) → (b || holds (xs ++ ys) m) ≡ ((b || holds xs m) || holds ys m)
  by true rest = refl
  by false rest = rest

each_held : (free marks : List Mark) (lists : List (List Mark))
    → ((m : Mark) → holds (flat_map (λ l. l) lists) m ≡ true → holds marks m ≡ true)
    → list_all (λ l. list_any (λ mark. not (holds free mark)) l) lists ≡ true → list_all (held (allowed free marks)) lists ≡ true
each_held free marks [] f e = refl
each_held free marks (l ∷ ls) f e =
    let p = and_parts (list_any (λ mark. not (holds free mark)) l) (list_all (λ l. list_any (λ mark. not (holds free mark)) l) ls) e in
    rw (one_held free marks l (λ m at. f m (holds_append l (flat_map (λ l. l) ls) m
    ∙ or_left (holds l m) (holds (flat_map (λ l. l) ls) m) at)) p.0)
    (each_held free marks ls (λ m at. f m (holds_append l (flat_map (λ l. l) ls) m
    ∙ or_right (holds l m) (holds (flat_map (λ l. l) ls) m) at)) p.1)

possible_met : (c : Condition) → is_possible c ≡ true → (M : List Mark) × (meets M c ≡ true)
possible_met c e =
    let marks : List Mark = flat_map (λ l. l) c.one_of in (
      allowed c.none_of marks,
      rw (each_held c.none_of marks c.one_of (λ m at. at) e, none_free c.none_of marks c.none_of (λ m at. at)) refl,
    )

-- both conditions, as one in its shortest form

both_met : (M : List Mark) (s c : Condition) → meets M s ≡ true → meets M c ≡ true → meets M (both s c) ≡ true
both_met M s c e f = meets_both M s c ∙ and_from (meets M s) (meets M c) e f

both_parts : (M : List Mark) (s c : Condition) → meets M (settled (both s c)) ≡ true → (meets M s ≡ true) × (meets M c ≡ true)
both_parts M s c e = and_parts (meets M s) (meets M c) (sym (meets_both M s c) ∙ sym (settled_met M (both s c)) ∙ e)

-- how many markings begin with one more condition

from_joined : (s c : Condition) (cs : List Condition) → is_possible (both s c) ≡ true
    → markings_from (Some s) (c ∷ cs) ≡ markings_from (Some (settled (both s c))) cs
from_joined s c cs e = by (is_possible (both s c)) e where
  by : (b : Bool) → b ≡ true → (if not b then 1 else 0) + markings_from (Some (if b then settled (both s c) else c)) cs
      ≡ markings_from (Some (settled (both s c))) cs
  by true f = omega arith
  by false f = absurd cc

from_begun : (s c : Condition) (cs : List Condition) → is_possible (both s c) ≡ false
    → markings_from (Some s) (c ∷ cs) ≡ suc (markings_from (Some c) cs)
from_begun s c cs e = by (is_possible (both s c)) e where
  by : (b : Bool) → b ≡ false → (if not b then 1 else 0) + markings_from (Some (if b then settled (both s c) else c)) cs
      ≡ suc (markings_from (Some c) cs)
  by true f = absurd cc
  by false f = omega arith

from_first : (c : Condition) (cs : List Condition) → markings (c ∷ cs) ≡ suc (markings_from (Some c) cs)
from_first c cs = omega arith

-- Fewer are not enough. What is said of all parts but the first is handed over as `rest`.

met_on : (s : Condition) (part : List Condition) (parts : List (List Condition)) (M : List Mark)
    → ((s : Condition) → markings_from (Some s) (joined_parts parts) ≤ length parts)
    → meets M s ≡ true → list_all (meets M) part ≡ true → markings_from (Some s) (part ++ joined_parts parts) ≤ length parts
met_on s [] parts M rest e f = rest s
met_on s (c ∷ cs) parts M rest e f =
    let p = and_parts (meets M c) (list_all (meets M) cs) f in
    let b = both_met M s c e p.0 in
    subst (λ n. n ≤ length parts) (sym (from_joined s c (cs ++ joined_parts parts) (met_possible M (both s c) b)))
    (met_on (settled (both s c)) cs parts M rest (settled_met M (both s c) ∙ b) p.1)

met_after : (s : Condition) (part : List Condition) (parts : List (List Condition)) (M : List Mark)
    → ((s : Condition) → markings_from (Some s) (joined_parts parts) ≤ length parts)
    → list_all (meets M) part ≡ true → markings_from (Some s) (part ++ joined_parts parts) ≤ suc (length parts)
met_after s [] parts M rest f = let r = rest s in omega (arith, r)
met_after s (c ∷ cs) parts M rest f =
    let p = and_parts (meets M c) (list_all (meets M) cs) f in
    by (is_possible (both s c)) refl p.0 p.1 (met_after (settled (both s c)) cs parts M rest p.1) where
      by : (b : Bool) → is_possible (both s c) ≡ b → meets M c ≡ true → list_all (meets M) cs ≡ true
          → markings_from (Some (settled (both s c))) (cs ++ joined_parts parts) ≤ suc (length parts)
          → markings_from (Some s) (c ∷ (cs ++ joined_parts parts)) ≤ suc (length parts)
      by true e here others next =
          subst (λ n. n ≤ suc (length parts)) (sym (from_joined s c (cs ++ joined_parts parts) e)) next
      by false e here others next =
          let r = met_on c cs parts M rest here others in
          subst (λ n. n ≤ suc (length parts)) (sym (from_begun s c (cs ++ joined_parts parts) e)) (omega (arith, r))

no_fewer_after : (parts : List (List Condition)) → AllByRecursion AreMet parts → (s : Condition)
    → markings_from (Some s) (joined_parts parts) ≤ length parts
no_fewer_after [] met s = omega arith
no_fewer_after (part ∷ parts) met s = met_after s part parts met.0.0 (no_fewer_after parts met.1) met.0.1

no_fewer : (parts : List (List Condition)) → AllByRecursion AreMet parts → markings (joined_parts parts) ≤ length parts
no_fewer [] met = omega arith
no_fewer ([] ∷ parts) met = let r = no_fewer parts met.1 in omega (arith, r)
no_fewer ((c ∷ cs) ∷ parts) met =
    let p = and_parts (meets met.0.0 c) (list_all (meets met.0.0) cs) met.0.1 in
    let r = met_on c cs parts met.0.0 (no_fewer_after parts met.1) p.0 p.1 in
    subst (λ n. n ≤ suc (length parts)) (sym (from_first c (cs ++ joined_parts parts))) (omega (arith, r))

-- They are enough: the conditions after those so far are cut into a part that still joins them, and others.
record AreCut (s : Condition) (cs : List Condition) : Type 0 where
  first : List Condition
  parts : List (List Condition)
  whole : first ++ joined_parts parts ≡ cs
  count : length parts ≡ markings_from (Some s) cs
  marking : List Mark
  so_far : meets marking s ≡ true
  all : list_all (meets marking) first ≡ true
  met : AllByRecursion AreMet parts

cut : (s : Condition) (cs : List Condition) → is_possible s ≡ true → AllByRecursion (λ c. is_possible c ≡ true) cs → AreCut s cs
cut s [] e all = let m = possible_met s e in record {
  first = [];
  parts = [];
  whole = refl;
  count = refl;
  marking = m.0;
  so_far = m.1;
  all = refl;
  met = tt;
}
cut s (c ∷ cs) e all = by (is_possible (both s c)) refl (λ t can. cut t cs can all.1) where
  by : (b : Bool) → is_possible (both s c) ≡ b → ((t : Condition) → is_possible t ≡ true → AreCut t cs) → AreCut s (c ∷ cs)
  by true f rest =
      let m = possible_met (both s c) f in
      let next = rest (settled (both s c)) (met_possible m.0 (settled (both s c)) (settled_met m.0 (both s c) ∙ m.1)) in
      let p = both_parts next.marking s c next.so_far in
      record {
        first = c ∷ next.first;
        parts = next.parts;
        whole = ap (λ xs. c ∷ xs) next.whole;
        count = next.count ∙ sym (from_joined s c cs f);
        marking = next.marking;
        so_far = p.0;
        all = and_from (meets next.marking c) (list_all (meets next.marking) next.first) p.1 next.all;
        met = next.met;
      }
  by false f rest =
      let next = rest c all.0 in
      let m = possible_met s e in
      record {
        first = [];
        parts = (c ∷ next.first) ∷ next.parts;
        whole = ap (λ xs. c ∷ xs) next.whole;
        count = ap suc next.count ∙ sym (from_begun s c cs f);
        marking = m.0;
        so_far = m.1;
        all = refl;
        met = (
          (next.marking, and_from (meets next.marking c) (list_all (meets next.marking) next.first) next.so_far next.all),
          next.met,
        );
      }

pub least_markings : (cs : List Condition) (parts : List (List Condition)) → AreParts cs parts → markings cs ≤ length parts
least_markings cs parts are =
    subst (λ (xs : List Condition). markings xs ≤ length parts) are.whole (no_fewer parts (recursion_from_All AreMet parts are.met))

pub enough_markings : (cs : List Condition) → All (λ c. is_possible c ≡ true) cs
    → (parts : List (List Condition)) × AreParts cs parts × (length parts ≡ markings cs)
enough_markings [] all = ([], record { whole = refl; met = All-from_recursion AreMet [] tt }, refl)
enough_markings (c ∷ cs) all =
    let each = recursion_from_All (λ c. is_possible c ≡ true) (c ∷ cs) all in
    let k = cut c cs each.0 each.1 in (
      (c ∷ k.first) ∷ k.parts,
      record {
        whole = ap (λ xs. c ∷ xs) k.whole;
        met = All-from_recursion AreMet ((c ∷ k.first) ∷ k.parts) (
          (k.marking, and_from (meets k.marking c) (list_all (meets k.marking) k.first) k.so_far k.all),
          k.met,
        );
      },
      ap suc k.count ∙ sym (from_first c cs),
    )
