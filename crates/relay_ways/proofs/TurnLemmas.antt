-- Under a marking that meets a turn's condition the spot's step is the turn's, and each marking meets one.
use Rattle.std.proofs.Common.{◌≡◌, ◌+◌, ◌-◌, ℕ, suc, Bool, true, false, cond, List, [], ◌∷◌, ◌++◌, length, Option, Some, None, refl, sym}
use Rattle.std.proofs.Common.{◌∙◌, ap, append_assoc, not, ◌&&◌, ◌||◌, arith}
use Rattle.std.specs.Prelude.{is_none, slice_get}
use Rattle.std.specs.List.{AllByRecursion, list_all, list_any, find, filter_map}
use Rattle.std.proofs.lemmas.Bool.{and_parts}
use Rattle.std.proofs.lemmas.List.Folds.{list_all-append}
use Rattle.sccp_base.specs.Marks.{holds}
use Rattle.sccp_base.specs.declared.mark.Mark.{Mark}
use Rattle.plan_rules.specs.declared.target.Target.{Target}
use Rattle.plan_model.specs.declared.node.Node.{Node}
use Rattle.plan_model.specs.declared.spot.Spot.{Spot}
use Rattle.plan_model.specs.declared.hop.Step.TheVariants as steps
use Rattle.plan_model.specs.Network.{Network}
use Rattle.plan_model.specs.Steps.{led, cause_of}
use Rattle.plan_model.specs.Targets.{marks, closing, first_open}
use Rattle.relay_ways.specs.Conditions.{condition, held, meets}
use Rattle.relay_ways.specs.Turns.{Turn, taken_turns, closed_turns, closed_row}

find_none : {X : Type 0} (p : X → Bool) (xs : List X) → list_any p xs ≡ false → find p xs ≡ None
find_none p [] e = refl
find_none p (x ∷ xs) e =
    elim (p x) as (λ b. (b || list_any p xs) ≡ false → cond b (Some x) (find p xs) ≡ None) [
      | true ↦ λ h. absurd cc
      | false ↦ λ h. find_none p xs h
    ] e

find_some : {X : Type 0} (p : X → Bool) (xs : List X) → list_any p xs ≡ true → is_none (find p xs) ≡ false
find_some p [] e = absurd cc
find_some p (x ∷ xs) e =
    elim (p x) as (λ b. (b || list_any p xs) ≡ true → is_none (cond b (Some x) (find p xs)) ≡ false) [
      | true ↦ λ h. refl
      | false ↦ λ h. find_some p xs h
    ] e

open_one : (node : Node) (ssn : ℕ) (M : List Mark) (place : ℕ) (t : Target) (ts : List Target) → held M (marks node ssn t) ≡ false
    → first_open node ssn M place (t ∷ ts) ≡ Some (place, t)
open_one node ssn M place t ts e = rw (find_none (holds M) (marks node ssn t) e) refl

shut_one : (node : Node) (ssn : ℕ) (M : List Mark) (place : ℕ) (t : Target) (ts : List Target) → held M (marks node ssn t) ≡ true
    → first_open node ssn M place (t ∷ ts) ≡ first_open node ssn M (place + 1) ts
shut_one node ssn M place t ts e = rw (find_some (holds M) (marks node ssn t) e) refl

pub map_each : {X : Type 0} (P R : X → Type 0) → ((x : X) → P x → R x) → (xs : List X) → AllByRecursion P xs → AllByRecursion R xs
map_each P R f [] a = a
map_each P R f (x ∷ xs) a = (f x a.0, map_each P R f xs a.1)

not_true : (b : Bool) → not b ≡ true → b ≡ false
not_true true e = absurd cc
not_true false e = refl

-- what a condition says that is met
all_of : (M : List Mark) (before : List (List Mark)) (free : List Mark) → meets M (condition before free) ≡ true
    → (list_all (held M) before ≡ true) × (held M free ≡ false)
all_of M before free e = let p = and_parts (list_all (held M) before) (not (held M free)) e in (p.0, not_true (held M free) p.1)

last_of : (M : List Mark) (before : List (List Mark)) (own : List Mark) → list_all (held M) (before ++ own ∷ []) ≡ true
    → (list_all (held M) before ≡ true) × (held M own ≡ true)
last_of M before own e =
    let p = and_parts (list_all (held M) before) (held M own && true) (sym (list_all-append (held M) before (own ∷ [])) ∙ e) in
    (p.0, (and_parts (held M own) true p.1).0)

-- the first open target is the one that the turn takes
abbrev pub Takes : Network → Node → Spot → List Mark → List (List Mark) → ℕ → List Target → Turn → Type 0
Takes plan node spot M before place ts t =
    meets M t.condition ≡ true → (list_all (held M) before ≡ true)
    × ((q : ℕ × Target) × (first_open node spot.ssn M place ts ≡ Some q) × (t.step ≡ led plan node spot q.0 q.1))

further : (plan : Network) (node : Node) (spot : Spot) (M : List Mark) (before : List (List Mark)) (place : ℕ) (t : Target)
    (ts : List Target) (u : Turn)
    → Takes plan node spot M (before ++ marks node spot.ssn t ∷ []) (place + 1) ts u → Takes plan node spot M before place (t ∷ ts) u
further plan node spot M before place t ts u takes e =
    let r = takes e in
    let p = last_of M before (marks node spot.ssn t) r.0 in
    (p.0, (r.1.0, shut_one node spot.ssn M place t ts p.1 ∙ r.1.1, r.1.2))

pub each_takes : (plan : Network) (node : Node) (spot : Spot) (M : List Mark) (before : List (List Mark)) (place : ℕ) (ts : List Target)
    → AllByRecursion (Takes plan node spot M before place ts) (taken_turns plan node spot before place ts)
each_takes plan node spot M before place [] = tt
each_takes plan node spot M before place (t ∷ ts) = (
  λ e. let p = all_of M before (marks node spot.ssn t) e in (p.0, ((place, t), open_one node spot.ssn M place t ts p.1, refl)),
  map_each (Takes plan node spot M (before ++ marks node spot.ssn t ∷ []) (place + 1) ts) (Takes plan node spot M before place (t ∷ ts))
      (further plan node spot M before place t ts)
      (taken_turns plan node spot (before ++ marks node spot.ssn t ∷ []) (place + 1) ts)
      (each_takes plan node spot M (before ++ marks node spot.ssn t ∷ []) (place + 1) ts),
)

-- All targets are closed.

find_after : {X : Type 0} (p : X → Bool) (xs ys : List X) → list_any p xs ≡ false → find p (xs ++ ys) ≡ find p ys
find_after p [] ys e = refl
find_after p (x ∷ xs) ys e =
    elim (p x) as (λ b. (b || list_any p xs) ≡ false → cond b (Some x) (find p (xs ++ ys)) ≡ find p ys) [
      | true ↦ λ h. absurd cc
      | false ↦ λ h. find_after p xs ys h
    ] e

find_here : {X : Type 0} (p : X → Bool) (x : X) (xs : List X) → p x ≡ true → find p (x ∷ xs) ≡ Some x
find_here p x xs e = rw e refl

one_held : (M : List Mark) (m : Mark) → held M (m ∷ []) ≡ true → holds M m ≡ true
one_held M m e = by (holds M m) e where
  by : (b : Bool) → (b || false) ≡ true → b ≡ true
  by true f = refl
  by false f = f

-- the last target is closed by the turn's mark
abbrev pub Closes : List Mark → List (List Mark) → List Mark → Turn → Type 0
Closes M before own t = meets M t.condition ≡ true → (list_all (held M) before ≡ true)
    × ((m : Mark) × (find (holds M) own ≡ Some m) × (t.step ≡ steps.Blocked (cause_of m) []))

pub each_closes : (M : List Mark) (before : List (List Mark)) (free ms : List Mark)
    → AllByRecursion (Closes M before (free ++ ms)) (closed_turns before free ms)
each_closes M before free [] = tt
each_closes M before free (m ∷ ms) = (
  λ e.
      let p = all_of M (before ++ (m ∷ []) ∷ []) free e in
      let q = last_of M before (m ∷ []) p.0 in
      (q.0, (m, find_after (holds M) free (m ∷ ms) p.1 ∙ find_here (holds M) m ms (one_held M m q.1), refl)),
  map_each (Closes M before ((free ++ m ∷ []) ++ ms)) (Closes M before (free ++ m ∷ ms))
      (λ u c e. let r = c e in (r.0, (r.1.0, ap (find (holds M)) (sym (append_assoc free (m ∷ []) ms)) ∙ r.1.1, r.1.2)))
      (closed_turns before (free ++ m ∷ []) ms) (each_closes M before (free ++ m ∷ []) ms),
)

-- the marks by which targets are closed, and the last of them
abbrev pub shut : Node → ℕ → List Mark → List Target → List Mark
shut node ssn M ts = filter_map (closing node ssn M) ts

abbrev pub last : List Mark → Option Mark
last ms = slice_get ms (length ms - 1)

last_after : (x m : Mark) (ms : List Mark) → last ms ≡ Some m → last (x ∷ ms) ≡ Some m
last_after x m [] e = absurd cc
last_after x m (y ∷ ms) e =
    let longer : length (x ∷ y ∷ ms) - 1 ≡ suc (length (y ∷ ms) - 1) = omega arith in
    rw longer e

abbrev pub Shuts : Node → ℕ → List Mark → List (List Mark) → ℕ → List Target → Turn → Type 0
Shuts node ssn M before place ts t =
    meets M t.condition ≡ true → (list_all (held M) before ≡ true)
    × ((first_open node ssn M place ts ≡ None) × ((m : Mark) × (last (shut node ssn M ts) ≡ Some m)
    × (t.step ≡ steps.Blocked (cause_of m) [])))

only_shut : (node : Node) (ssn : ℕ) (M : List Mark) (place : ℕ) (t : Target) (m : Mark) → closing node ssn M t ≡ Some m
    → (first_open node ssn M place (t ∷ []) ≡ None) × (last (shut node ssn M (t ∷ [])) ≡ Some m)
only_shut node ssn M place t m e = (rw e refl, rw e refl)

closing_some : (node : Node) (ssn : ℕ) (M : List Mark) (t : Target) → held M (marks node ssn t) ≡ true
    → (m : Mark) × (closing node ssn M t ≡ Some m)
closing_some node ssn M t e = by (closing node ssn M t) refl where
  by : (o : Option Mark) → closing node ssn M t ≡ o → (m : Mark) × (closing node ssn M t ≡ Some m)
  by (Some m) f = (m, f)
  by None f = absurd (one (find_some (holds M) (marks node ssn t) e) f) where
    one : is_none (closing node ssn M t) ≡ false → closing node ssn M t ≡ None → ⊥
    one g h = cc

shut_after : (node : Node) (ssn : ℕ) (M : List Mark) (t : Target) (ts : List Target) (x m : Mark) → closing node ssn M t ≡ Some x
    → last (shut node ssn M ts) ≡ Some m
    → last (shut node ssn M (t ∷ ts)) ≡ Some m
shut_after node ssn M t ts x m e f = rw e (last_after x m (shut node ssn M ts) f)

pub each_shuts : (node : Node) (ssn : ℕ) (M : List Mark) (before : List (List Mark)) (place : ℕ) (ts : List Target)
    → AllByRecursion (Shuts node ssn M before place ts) (closed_row node ssn before ts)
each_shuts node ssn M before place [] = tt
each_shuts node ssn M before place (t ∷ []) =
    map_each (Closes M before (marks node ssn t)) (Shuts node ssn M before place (t ∷ []))
    (λ u c e. let r = c e in let o = only_shut node ssn M place t r.1.0 r.1.1 in (r.0, (o.0, (r.1.0, o.1, r.1.2))))
    (closed_turns before [] (marks node ssn t)) (each_closes M before [] (marks node ssn t))
each_shuts node ssn M before place (t ∷ u ∷ ts) =
    map_each (Shuts node ssn M (before ++ marks node ssn t ∷ []) (place + 1) (u ∷ ts)) (Shuts node ssn M before place (t ∷ u ∷ ts))
    (λ x s e.
    let r = s e in
    let p = last_of M before (marks node ssn t) r.0 in
    let c = closing_some node ssn M t p.1 in
    (p.0, (shut_one node ssn M place t (u ∷ ts) p.1 ∙ r.1.0, (r.1.1.0, shut_after node ssn M t (u ∷ ts) c.0 r.1.1.0 c.1 r.1.1.1, r.1.1.2))))
    (closed_row node ssn (before ++ marks node ssn t ∷ []) (u ∷ ts))
    (each_shuts node ssn M (before ++ marks node ssn t ∷ []) (place + 1) (u ∷ ts))
