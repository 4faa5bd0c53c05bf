-- Under each marking the condition of one of a spot's turns is met.
use Rattle.std.proofs.Common.{◌≡◌, ◌+◌, ℕ, Bool, true, false, List, [], ◌∷◌, ◌++◌, Option, Some, None, refl, ◌∙◌, ◌||◌, arith}
use Rattle.std.specs.Prelude.{◌≤◌, length}
use Rattle.std.specs.List.{list_all, list_any}
use Rattle.std.proofs.lemmas.List.Folds.{list_any-append}
use Rattle.sccp_base.specs.Marks.{holds}
use Rattle.sccp_base.specs.declared.mark.Mark.{Mark}
use Rattle.plan_rules.specs.Rule.{Rule}
use Rattle.plan_rules.specs.declared.target.Target.{Target}
use Rattle.plan_model.specs.declared.node.Node.{Node}
use Rattle.plan_model.specs.declared.spot.Spot.{Spot}
use Rattle.plan_model.specs.Network.{Network}
use Rattle.plan_model.specs.Targets.{marks}
use Rattle.relay_ways.specs.Conditions.{condition, held, meets}
use Rattle.relay_ways.specs.Turns.{Turn, taken_turns, closed_turns, closed_row, turns_by, HasTarget}
use Rattle.relay_ways.proofs.Held.{met, one_more, one_free}

abbrev pub any_met : List Mark → List Turn → Bool
any_met M turns = list_any (λ t. meets M t.condition) turns

or_here : (a b : Bool) → a ≡ true → (a || b) ≡ true
or_here true b e = refl
or_here false b e = absurd cc

or_there : (a b : Bool) → b ≡ true → (a || b) ≡ true
or_there true b e = refl
or_there false b e = e

closed_by_mark : (M : List Mark) (before : List (List Mark)) (free : List Mark) (m : Mark) (ms : List Mark) (h : Bool) → holds M m ≡ h
    → list_all (held M) before ≡ true → held M free ≡ false
    → (h || held M ms) ≡ true → (held M (free ++ m ∷ []) ≡ false → held M ms ≡ true
    → any_met M (closed_turns before (free ++ m ∷ []) ms) ≡ true)
    → any_met M (closed_turns before free (m ∷ ms)) ≡ true
closed_by_mark M before free m ms true e all none some later =
    or_here (meets M (condition (before ++ (m ∷ []) ∷ []) free)) (any_met M (closed_turns before (free ++ m ∷ []) ms))
    (met M (before ++ (m ∷ []) ∷ []) free (one_more M before (m ∷ []) all (rw e refl)) none)
closed_by_mark M before free m ms false e all none some later =
    or_there (meets M (condition (before ++ (m ∷ []) ∷ []) free)) (any_met M (closed_turns before (free ++ m ∷ []) ms))
    (later (one_free M free m none e) some)

closed_some : (M : List Mark) (before : List (List Mark)) (free ms : List Mark) → list_all (held M) before ≡ true → held M free ≡ false
    → held M ms ≡ true
    → any_met M (closed_turns before free ms) ≡ true
closed_some M before free [] all none some = absurd cc
closed_some M before free (m ∷ ms) all none some =
    closed_by_mark M before free m ms (holds M m) refl all none some
    (λ free' some'. closed_some M before (free ++ m ∷ []) ms all free' some')

-- the turns of some targets, after others of which each has a mark that is held
abbrev rest : Network → Node → Spot → List Mark → List (List Mark) → ℕ → List Target → Bool
rest plan node spot M before place ts = any_met M (taken_turns plan node spot before place ts)
    || any_met M (closed_row node spot.ssn before ts)

one_rest : (plan : Network) (node : Node) (spot : Spot) (M : List Mark) (before : List (List Mark)) (place : ℕ) (t u : Target)
    (ts : List Target) (h : Bool) → held M (marks node spot.ssn t) ≡ h
    → list_all (held M) before ≡ true → (list_all (held M) (before ++ marks node spot.ssn t ∷ []) ≡ true
    → rest plan node spot M (before ++ marks node spot.ssn t ∷ []) (place + 1) (u ∷ ts) ≡ true)
    → rest plan node spot M before place (t ∷ u ∷ ts) ≡ true
one_rest plan node spot M before place t u ts false e all later =
    or_here (any_met M (taken_turns plan node spot before place (t ∷ u ∷ ts))) (any_met M (closed_row node spot.ssn before (t ∷ u ∷ ts)))
    (or_here (meets M (condition before (marks node spot.ssn t)))
    (any_met M (taken_turns plan node spot (before ++ marks node spot.ssn t ∷ []) (place + 1) (u ∷ ts)))
    (met M before (marks node spot.ssn t) all e))
one_rest plan node spot M before place t u ts true e all later =
    by (meets M (condition before (marks node spot.ssn t))) (later (one_more M before (marks node spot.ssn t) all e)) where
      by : (b : Bool) → rest plan node spot M (before ++ marks node spot.ssn t ∷ []) (place + 1) (u ∷ ts) ≡ true
          → ((b || any_met M (taken_turns plan node spot (before ++ marks node spot.ssn t ∷ []) (place + 1) (u ∷ ts)))
          || any_met M (closed_row node spot.ssn (before ++ marks node spot.ssn t ∷ []) (u ∷ ts))) ≡ true
      by true s = refl
      by false s = s

some_met : (plan : Network) (node : Node) (spot : Spot) (M : List Mark) (before : List (List Mark)) (place : ℕ) (t : Target)
    (ts : List Target) → list_all (held M) before ≡ true
    → rest plan node spot M before place (t ∷ ts) ≡ true
some_met plan node spot M before place t [] all = by (held M (marks node spot.ssn t)) refl where
  by : (h : Bool) → held M (marks node spot.ssn t) ≡ h → rest plan node spot M before place (t ∷ []) ≡ true
  by false e =
      or_here (any_met M (taken_turns plan node spot before place (t ∷ []))) (any_met M (closed_turns before [] (marks node spot.ssn t)))
      (or_here (meets M (condition before (marks node spot.ssn t))) false (met M before (marks node spot.ssn t) all e))
  by true e =
      or_there (any_met M (taken_turns plan node spot before place (t ∷ []))) (any_met M (closed_turns before [] (marks node spot.ssn t)))
      (closed_some M before [] (marks node spot.ssn t) all refl e)
some_met plan node spot M before place t (u ∷ ts) all =
    one_rest plan node spot M before place t u ts (held M (marks node spot.ssn t)) refl all
    (λ all'. some_met plan node spot M (before ++ marks node spot.ssn t ∷ []) (place + 1) u ts all')

of_targets : (plan : Network) (node : Node) (spot : Spot) (M : List Mark) (ts : List Target) → 1 ≤ length ts
    → any_met M (taken_turns plan node spot [] 0 ts ++ closed_row node spot.ssn [] ts) ≡ true
of_targets plan node spot M [] some = absurd (omega (arith, some))
of_targets plan node spot M (t ∷ ts) some =
    list_any-append (λ t. meets M t.condition) (taken_turns plan node spot [] 0 (t ∷ ts)) (closed_row node spot.ssn [] (t ∷ ts))
    ∙ some_met plan node spot M [] 0 t ts refl

pub one_made : (plan : Network) (node : Node) (spot : Spot) (M : List Mark) (o : Option Rule) → HasTarget o
    → any_met M (turns_by plan node spot o) ≡ true
one_made plan node spot M None has = refl
one_made plan node spot M (Some r) has = of_targets plan node spot M r.targets has
